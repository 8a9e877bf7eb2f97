-- The head of a text with properties: lines of a name, a colon with a space, and a value.
use Rattle.std.specs.Prelude.{ℕ, ◌+◌, ◌^◌, ◌==◌, ◌&&◌, nat_le, Bool, ℤ, pos, negsuc, nat_lt, List, [], ◌∷◌, ◌++◌, Option, Some, None, length, drop, slice_index, option_map, if◌then◌else◌}
use Rattle.std.specs.Char.{is_ascii_digit}
use Rattle.std.specs.List.{list_all}
use Rattle.std.specs.Str.Lines.{strip_carriage_return}
use Rattle.std.specs.Str.Parse.{signed_digits_value}
use Rattle.ci_base.specs.declared.numbers.PropNo.{PropNo}
use Rattle.ci_base.specs.declared.value.Value.TheVariants.{Int, Str}
use Rattle.ci_props.specs.Table.{number_of_name}
use Rattle.ci_filters.specs.Contents.{Item}
use Rattle.ci_filters.specs.declared.content.Content.TheVariants.{Words, Held}

-- the lines of a text that a line feed ends, without it
abbrev pub onto_line : ℕ → List (List ℕ) → List (List ℕ)
onto_line b [] = []
onto_line b (line ∷ lines) = (b ∷ line) ∷ lines

abbrev pub ended_lines : List ℕ → List (List ℕ)
ended_lines [] = []
ended_lines (b ∷ text) = if b == 10 then [] ∷ ended_lines text else onto_line b (ended_lines text)

-- a name and a value: what stands before the first colon with a space behind it, and what stands behind both
abbrev pub name_and_value : List ℕ → Option (List ℕ × List ℕ)
name_and_value [] = None
name_and_value (b ∷ line) =
    if (b == 58) && (slice_index line 0 == 32) then Some ([], drop 1 line)
    else option_map (λ field. (b ∷ field.0, field.1)) (name_and_value line)

-- what a line says, less the carriage return at its end
abbrev pub field_of : List ℕ → Option (List ℕ × List ℕ)
field_of line = name_and_value (strip_carriage_return line)

-- a minus or none, and 1 to 19 digits
abbrev pub without_minus : List ℕ → List ℕ
without_minus value = if slice_index value 0 == 45 then drop 1 value else value

abbrev pub is_number : List ℕ → Bool
is_number value = let digits = without_minus value in
    nat_le 1 (length digits) && nat_le (length digits) 19 && list_all is_ascii_digit digits

-- the number is at least -2^63 and below 2^63; `negsuc n` is -(n + 1)
abbrev pub fits : ℤ → Bool
fits (pos n) = nat_lt n (2 ^ 63)
fits (negsuc n) = nat_lt n (2 ^ 63)

unfoldable pub number_of : List ℕ → Option ℤ
number_of value =
    if is_number value && fits (signed_digits_value 10 value) then Some (signed_digits_value 10 value) else None

-- Write is a number; where the value writes none, nothing is said
abbrev pub number_items : PropNo → Option ℤ → List Item
number_items property None = []
number_items property (Some number) = record { property = property; content = Held (Int number) } ∷ []

-- a text is said as words, and, if it isn't too long, as a value
abbrev pub text_items : PropNo → List ℕ → List Item
text_items property value =
    record { property = property; content = Words value }
    ∷ (if nat_le (length value) 65536 then record { property = property; content = Held (Str value) } ∷ [] else [])

-- Write is 4, and the texts are 5 to 9; of other properties nothing is said
abbrev pub property_items : Option PropNo → List ℕ → List Item
property_items None value = []
property_items (Some property) value =
    if property.0 == 4 then number_items property (number_of value)
    else (if nat_le 5 property.0 && nat_le property.0 9 then text_items property value else [])

unfoldable pub field_items : List ℕ → List ℕ → List Item
field_items name value = property_items (number_of_name name) value

-- the chunks of the head: those of the lines up to the first that has no name and value
abbrev pub items_before : Option (List ℕ × List ℕ) → List Item → List Item
items_before None later = []
items_before (Some field) later = field_items field.0 field.1 ++ later

abbrev pub head_items : List (List ℕ) → List Item
head_items [] = []
head_items (line ∷ lines) = items_before (field_of line) (head_items lines)

-- the bytes of the head with its line feeds: of these lines, and of the line that ends them, if that is empty
abbrev pub bytes_before : Option (List ℕ × List ℕ) → List ℕ → ℕ → ℕ
bytes_before None line later = if length (strip_carriage_return line) == 0 then length line + 1 else 0
bytes_before (Some _) line later = length line + 1 + later

abbrev pub head_bytes : List (List ℕ) → ℕ
head_bytes [] = 0
head_bytes (line ∷ lines) = bytes_before (field_of line) line (head_bytes lines)

-- the rest of the text
abbrev pub behind_head : List ℕ → List ℕ
behind_head text = drop (head_bytes (ended_lines text)) text
