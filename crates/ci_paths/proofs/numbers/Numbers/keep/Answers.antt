use Rattle.std.proofs.Common.{ap, ◌∙◌, ◌≡◌, ◌++◌, [], ◌∷◌, None, ℕ, List, length}
use Rattle.ci_base.specs.declared.numbers.DocNo.{DocNo}
use Rattle.ci_paths.specs.Numbering.{Numbering, number_of, path_of}
use Rattle.ci_paths.proofs.Indexed.{IsIndexed-put, IsIndexed-room, room-within, number_of-last}
use Rattle.ci_paths.proofs.numbers.Numbers.keep.Goals as goal

pub invariant_of-self-in_err-add : goal.invariant_of-self-in_err-add
invariant_of-self-in_err-add c = rw (c.in_err-add.ensures.err, c.in_ok-make_room.ensures.ok) (IsIndexed-room c.self.inside.docs c.self.inside.places c.args.doc.0 c.self.invariant c.requires.bound)

pub invariant_of-self-2 : goal.invariant_of-self-2
invariant_of-self-2 c =
    let numbered = c.self.inside.docs in
    let new : number_of numbered c.args.path.now ≡ None = ap (λ (n : Numbering). number_of n.numbered c.args.path.now) c.self.view_is ∙ c.requires.path in
    let free : path_of numbered c.args.doc.0 ≡ None = ap (λ (n : Numbering). path_of n.numbered c.args.doc.0) c.self.view_is ∙ c.requires.number in
    let room = IsIndexed-room numbered c.self.inside.places c.args.doc.0 c.self.invariant c.requires.bound in
    rw (c.in_ok-add.ensures.ok, c.put.ensures, ap length c.items-place.ensures, c.in_ok-make_room.ensures.ok)
    (IsIndexed-put numbered _ c.args.path.now c.args.doc room (room-within c.self.inside.places c.args.doc.0) new free)

pub returns-clause-ok : goal.returns-clause-ok
returns-clause-ok c =
    ap (λ (es : List (List ℕ × DocNo)). let n : Numbering = record { numbered = es; limit = c.self.inside.limit } in n) c.in_ok-add.ensures.ok
    ∙ ap (λ (n : Numbering). let m : Numbering = record n { numbered = n.numbered ++ (c.args.path.now, c.args.doc) ∷ [] } in m) c.self.view_is

pub returns-clause-numbered : goal.returns-clause-numbered
returns-clause-numbered c =
    let new = ap (λ (n : Numbering). number_of n.numbered c.args.path.now) c.self.view_is ∙ c.requires.path in
    rw c.in_ok-add.ensures.ok (number_of-last c.self.inside.docs c.args.path.now c.args.doc new)
