-- The name of a path is no longer than the path.
use Rattle.std.proofs.Common.{◌≡◌, ℕ, ◌≤◌, ◌==◌, ◌&&◌, eqb, leb, List, length, get_or, arith, leb-true, length-drop}
use Rattle.std.proofs.lemmas.Bool.{and_parts}
use Rattle.std.specs.List.{after_last, list_all}
use Rattle.ci_base.specs.Path.{IsPath, is_part, is_shown, parts_of}

path_short : (path : List ℕ) → IsPath path → length path ≤ 1024
path_short path is =
    let a = leb (length path) 1024 in
    let b = eqb (get_or path 0 0) 47 in
    let c = list_all is_shown path in
    let d = list_all is_part (parts_of path) in
    leb-true (length path) 1024 (and_parts a b (and_parts (a && b) c (and_parts (a && b && c) d is.form).0).0).0

pub name_short : (path name : List ℕ) → IsPath path → name ≡ after_last (λ b. b == 47) path → length name ≤ 65536
name_short path name is same = let short = path_short path is in rw same (simp length-drop (omega arith))
