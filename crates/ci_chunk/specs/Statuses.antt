-- The statuses by number: those of the platform SDK's filterr.h, and S_OK, which is 0 all over that SDK. `Status` has to
-- give each name its number.
use Rattle.std.specs.Prelude.{List, [], ◌∷◌}
use Rattle.ci_chunk.specs.declared.status.Status.{Status}

-- a call was done
abbrev pub s_ok : Status
s_ok = record { 0 = 0 }

-- what ends a list: of chunks, of a chunk's texts, of a chunk's values
abbrev pub end_of_chunks : Status
end_of_chunks = record { 0 = 0x80041700 }

abbrev pub no_more_text : Status
no_more_text = record { 0 = 0x80041701 }

abbrev pub no_more_values : Status
no_more_values = record { 0 = 0x80041702 }

-- the document couldn't be read
abbrev pub access : Status
access = record { 0 = 0x80041703 }

-- the chunk has no text, no value
abbrev pub no_text : Status
no_text = record { 0 = 0x80041705 }

abbrev pub no_values : Status
no_values = record { 0 = 0x80041706 }

-- the chunk can't be had: an embedding, a link
abbrev pub embedding_unavailable : Status
embedding_unavailable = record { 0 = 0x80041707 }

abbrev pub link_unavailable : Status
link_unavailable = record { 0 = 0x80041708 }

-- a call was done, and gave the chunk's last text, its last value
abbrev pub last_text : Status
last_text = record { 0 = 0x00041709 }

abbrev pub last_values : Status
last_values = record { 0 = 0x0004170A }

-- the document has a password; it is of a format that the filter doesn't know
abbrev pub password : Status
password = record { 0 = 0x8004170B }

abbrev pub unknown_format : Status
unknown_format = record { 0 = 0x8004170C }

-- all of them
abbrev pub named : List Status
named =
    s_ok ∷ end_of_chunks ∷ no_more_text ∷ no_more_values ∷ access ∷ no_text ∷ no_values ∷ embedding_unavailable
    ∷ link_unavailable ∷ last_text ∷ last_values ∷ password ∷ unknown_format ∷ []
