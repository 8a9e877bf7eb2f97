use Rattle.std.proofs.Common.{◌≡◌, ◌∷◌, ◌++◌, ap, sym, arith}
use Rattle.ci_wire.specs.Frame.{break_byte, state_byte, chunk_bytes}
use Rattle.ci_wire.specs.Numbers.{u16_bytes, u32_bytes}
use Rattle.ci_wire.proofs.BodyLemmas.{u32_whole}
use Rattle.ci_wire.proofs.body.chunk_of.Goals as goal

pub returns-clause-spelled : goal.returns-clause-spelled
unfolding chunk_bytes
returns-clause-spelled c =
    let last = u32_whole _ _ _ c.split_u32-length.ensures.spelled (omega arith) in
    let whole : c.args.rest.now ≡ u32_bytes c.split_u32-locale.result.0 ++ (u16_bytes c.split_u16-property.result.0 ++ (u32_bytes c.split_u32-source.result.0 ++ (u32_bytes c.split_u32-start.result.0 ++ u32_bytes c.split_u32-length.result.0))) =
    cc (last, c.split_u32-locale.ensures.spelled, c.split_u16-property.ensures.spelled, c.split_u32-source.ensures.spelled, c.split_u32-start.ensures.spelled) in
    sym (ap (λ xs. u32_bytes c.args.id ++ (break_byte c.args.break_type ∷ state_byte c.args.state ∷ xs)) whole)
