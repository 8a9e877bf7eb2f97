use Rattle.std.proofs.Common.{◌≡◌, ◌||◌, ◌&&◌, Bool, true, false, ℕ, List, bytes_eq, codes, refl, sym, ap, ◌∙◌, inl, inr, Ok, Err, if◌then◌else◌}
use Rattle.std.specs.Str.{is_utf8}
use Rattle.std.proofs.lemmas.Bool.{and_from}
use Rattle.std.proofs.lemmas.Slice.Eq.{bytes_eq-Decides}
use Rattle.std.proofs.lemmas.Str.{is_utf8-from_IsUtf8}
use Rattle.ci_base.specs.Path.{has_path_form}
use Rattle.ci_paths.specs.declared.prefix.Prefix.{Prefix}
use Rattle.ci_paths.specs.Prefix.{IsPrefix, prefix_of}
use Rattle.ci_pieces.specs.Cut.{Cut}
use Rattle.ci_dialect.specs.declared.fault.QueryFault.TheVariants.{Bad}
use Rattle.ci_dialect.specs.declared.restriction.Restriction.TheVariants as restriction
use Rattle.ci_dialect.specs.Values.{is_prefix}
use Rattle.ci_dialect.specs.Values.{scoped}
use Rattle.ci_query.proofs.value.scoped.Goals as goal

or_right : (a b : Bool) → b ≡ true → (a || b) ≡ true
or_right true b h = refl
or_right false b h = h

is_prefix-from : (text : List ℕ) → IsPrefix text → is_prefix text ≡ true
is_prefix-from text (inl root) = ap (λ b. b || (is_utf8 text && has_path_form text)) ((bytes_eq-Decides text (codes "/")).1 root)
is_prefix-from text (inr path) = or_right (bytes_eq text (codes "/")) _ (and_from (is_utf8 text) (has_path_form text) (is_utf8-from_IsUtf8 text path.utf8) path.form)

scoped-prefix : (given : Cut) (prefix : Prefix) → is_prefix given.text ≡ true → prefix ≡ prefix_of given.text → scoped given ≡ Ok (restriction.Scope prefix)
scoped-prefix given prefix spelled is =
    ap (λ b. if b then Ok (restriction.Scope (prefix_of given.text)) else Err (Bad given.at)) spelled ∙ ap (λ p. Ok (restriction.Scope p)) (sym is)

pub returns-in-Ok : goal.returns-in-Ok
returns-in-Ok c =
    let spelled = ap is_prefix (sym c.text.ensures) ∙ is_prefix-from c.text.result.now c.in-Ok.ensures.prefix in
    scoped-prefix c.args.given.now c.in-Ok.prefix spelled (c.in-Ok.ensures.ok ∙ ap prefix_of c.text.ensures)
