-- The properties of documents.
use Rattle.std.specs.Prelude.{ℕ, ◌==◌, List, [], ◌∷◌, Option, codes, find}
use Rattle.std.specs.Option.{option_map}
use Rattle.std.specs.Str.{str_eq_ignore_ascii_case}
use Rattle.ci_base.specs.declared.numbers.PropNo.{PropNo}
use Rattle.ci_props.specs.declared.property.Kind.{Kind}
use Rattle.ci_props.specs.declared.property.Kind.TheVariants.{Words, Int, Str}

pub record Row : Type 0 where
  pub number : ℕ
  pub name : List ℕ
  pub kind : Kind

abbrev pub row : ℕ → List ℕ → Kind → Row
row number name kind = record { number = number; name = name; kind = kind }

-- each property with its number, its name and its kind
abbrev pub table : List Row
table =
    row 1 (codes "Contents") Words
    ∷ row 2 (codes "Filename") Str
    ∷ row 3 (codes "Size") Int
    ∷ row 4 (codes "Write") Int
    ∷ row 5 (codes "DocTitle") Str
    ∷ row 6 (codes "DocSubject") Str
    ∷ row 7 (codes "DocAuthor") Str
    ∷ row 8 (codes "DocKeywords") Str
    ∷ row 9 (codes "DocComments") Str
    ∷ []

-- the property of this name, if the table has one
abbrev pub number_of_name : List ℕ → Option PropNo
number_of_name name =
    option_map (λ property. record { 0 = property.number })
    (find (λ property. str_eq_ignore_ascii_case property.name name) table)

-- the kind of the property of this number, if the table has one
abbrev pub kind_of_number : ℕ → Option Kind
kind_of_number number =
    option_map (λ property. property.kind) (find (λ property. property.number == number) table)

-- the name of the property of this number, if the table has one
abbrev pub name_of_number : ℕ → Option (List ℕ)
name_of_number number =
    option_map (λ property. property.name) (find (λ property. property.number == number) table)
