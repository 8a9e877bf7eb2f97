-- Parts beside what a view shows of them.
use Rattle.std.proofs.Common.{◌≡◌, ℕ, ◌<◌, List, length, map, take, get_or, Some, sym, ap, ◌∙◌}
use Rattle.std.specs.Prelude.{slice_get}
use Rattle.std.specs.Option.{option_map}
use Rattle.std.proofs.lemmas.List.{length-map, take-map}
use Rattle.std.proofs.lemmas.Option.{slice_get-get_or, slice_get-map}
use Rattle.ci_wordlist.specs.WordList.{WordLists}
use Rattle.ci_part.specs.Part.{lists_of}
use Rattle.ci_part.specs.declared.part.Part.{Part}

module _ (view : List WordLists) (parts : List Part) (is : map lists_of parts ≡ view) where
  pub part_there : (n : ℕ) (d : Part) → n < length parts → slice_get view n ≡ Some (lists_of (get_or parts n d))
  part_there n d within =
      ap (λ (ps : List WordLists). slice_get ps n) (sym is) ∙ slice_get-map lists_of parts n ∙ ap (λ o. option_map lists_of o) (slice_get-get_or parts n d within)

  pub newer_parts : (n : ℕ) → map lists_of (take n parts) ≡ take n view
  newer_parts n = sym (ap (take n) (sym is) ∙ take-map lists_of n parts)

  pub as_many : length view ≡ length parts
  as_many = ap length (sym is) ∙ length-map parts lists_of
