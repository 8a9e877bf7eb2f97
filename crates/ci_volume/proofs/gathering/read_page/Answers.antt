use Rattle.std.proofs.Common.{◌*◌, ◌∙◌, ap, arith, drop, take}
use Rattle.std.proofs.lemmas.List.{drop-drop, drop-take, take-take}
use Rattle.byteorder.specs.Endian.{big_number}
use Rattle.ci_volume.specs.Layout.{number_at, part}
use Rattle.ci_volume.proofs.gathering.read_page.Goals as goal

pub returns-clause-next : goal.returns-clause-next
returns-clause-next g c honest =
    let seen = g.D.Disk.seen c.args.disk.now in
    c.next_in.ensures ∙ ap (λ xs. number_at xs 0 4) (c.in_ok-fetch.ensures.ok honest)
    ∙ ap (λ m. number_at (part seen (4096 * c.from.result) m) 0 4) c.requires.size
    ∙ ap (λ n. number_at (part seen (4096 * n) 4096) 0 4) c.from.ensures
    ∙ ap (big_number 4) (take-take 4 4096 (drop (4096 * c.args.page) seen) (omega arith))

pub returns-clause-content : goal.returns-clause-content
returns-clause-content g c honest =
    let seen = g.D.Disk.seen c.args.disk.now in
    ap (drop 4) (c.in_ok-fetch.ensures.ok honest) ∙ ap (λ m. drop 4 (part seen (4096 * c.from.result) m)) c.requires.size
    ∙ ap (λ n. drop 4 (part seen (4096 * n) 4096)) c.from.ensures
    ∙ drop-take 4 4092 (drop (4096 * c.args.page) seen) ∙ ap (take 4092) (drop-drop 4 (4096 * c.args.page) seen)
