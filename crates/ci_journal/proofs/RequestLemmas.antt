-- What the request of a line is.
use Rattle.std.proofs.Common.{arith, ◌≡◌, ◌&&◌, ◌+◌, ◌≤◌, ℕ, Bool, true, false, cond, List, length, bytes_eq, codes, refl, IsUtf8, length-drop}
use Rattle.std.specs.Str.{is_utf8}
use Rattle.std.specs.List.{position_or_len, before_first, after_first}
use Rattle.std.proofs.lemmas.Str.{is_utf8-from_IsUtf8, IsUtf8-from_is_utf8}
use Rattle.ci_base.specs.Path.{has_path_form}
use Rattle.ci_io.specs.declared.line.Line.{Line}
use Rattle.ci_io.specs.declared.line.Line.TheVariants as line
use Rattle.ci_io.specs.Limits.{line_bytes}
use Rattle.ci_io.specs.Reading.{IsShort}
use Rattle.ci_journal.specs.declared.request.Request.{Request}
use Rattle.ci_journal.specs.declared.request.Request.TheVariants.{Changed, Deleted, Put, Query, Filter, Shadow, Master, Step, Scan, Pending, Unfiltered, Status, Load, Wait, Quit, Bad}
use Rattle.ci_journal.specs.Requests.{IsAskable, is_space, has_space, is_load, is_short_number, load_of, load_request, number_in, changed_request, deleted_request, put_request, argument_request, word_request, text_request, bytes_request, request_of}

pub bytes_request-text : (bytes : List ℕ) → IsUtf8 bytes → bytes_request bytes ≡ text_request bytes
bytes_request-text bytes utf8 = let e = is_utf8-from_IsUtf8 bytes utf8 in rw e

pub bytes_request-bad : (bytes : List ℕ) → (IsUtf8 bytes → ⊥) → Bad ≡ bytes_request bytes
bytes_request-bad bytes none = by (is_utf8 bytes) refl
  where
    by : (b : Bool) → is_utf8 bytes ≡ b → Bad ≡ bytes_request bytes
    by true e = absurd (none (IsUtf8-from_is_utf8 bytes e))
    by false e = rw e

IsAskable-if : (b : Bool) (r s : Request) → (b ≡ true → IsAskable r) → IsAskable s → IsAskable (cond b r s)
IsAskable-if true r s one other = one refl
IsAskable-if false r s one other = other

length-after_first : (p : ℕ → Bool) (text : List ℕ) (most : ℕ) → length text ≤ most → length (after_first p text) ≤ most
length-after_first p text most short = omega (arith, length-drop (position_or_len p text + 1) text, short)

-- numbers of a load are within their bounds
load_within : (b c : Bool) (seed count : ℕ) → (b && c && is_load seed count) ≡ true → (seed ≤ 65535) × (1 ≤ count) × (count ≤ 65536)
load_within b c seed count all = grind arith

IsAskable-load : (argument : List ℕ) → IsAskable (load_request argument)
IsAskable-load argument =
    let seed = before_first is_space argument in
    let count = after_first is_space argument in
    IsAskable-if (has_space argument) (load_of seed count) Bad
    (λ _. IsAskable-if _ (Load (number_in seed) (number_in count)) Bad
    (λ all. load_within (is_short_number seed) (is_short_number count) (number_in seed) (number_in count) all) tt) tt

IsAskable-argument : (word argument : List ℕ) → length argument ≤ line_bytes → IsAskable (argument_request word argument)
IsAskable-argument word argument short =
    IsAskable-if (bytes_eq word (codes "changed")) (changed_request argument) _ (λ _. IsAskable-if (has_path_form argument) (Changed argument) Bad (λ _. tt) tt)
    (IsAskable-if (bytes_eq word (codes "deleted")) (deleted_request argument) _ (λ _. IsAskable-if (has_path_form argument) (Deleted argument) Bad (λ _. tt) tt)
    (IsAskable-if (bytes_eq word (codes "put")) (put_request argument) _ (λ _. IsAskable-if _ (Put _ (after_first is_space argument)) Bad (λ _. length-after_first is_space argument line_bytes short) tt)
    (IsAskable-if (bytes_eq word (codes "query")) (Query argument) _ (λ _. short)
    (IsAskable-if (bytes_eq word (codes "load")) (load_request argument) Bad (λ _. IsAskable-load argument) tt))))

IsAskable-word : (word : List ℕ) → IsAskable (word_request word)
IsAskable-word word =
    IsAskable-if (bytes_eq word (codes "filter")) Filter _ (λ _. tt)
    (IsAskable-if (bytes_eq word (codes "shadow")) Shadow _ (λ _. tt)
    (IsAskable-if (bytes_eq word (codes "master")) Master _ (λ _. tt)
    (IsAskable-if (bytes_eq word (codes "step")) Step _ (λ _. tt)
    (IsAskable-if (bytes_eq word (codes "scan")) Scan _ (λ _. tt)
    (IsAskable-if (bytes_eq word (codes "pending")) Pending _ (λ _. tt)
    (IsAskable-if (bytes_eq word (codes "unfiltered")) Unfiltered _ (λ _. tt)
    (IsAskable-if (bytes_eq word (codes "status")) Status _ (λ _. tt)
    (IsAskable-if (bytes_eq word (codes "wait")) Wait _ (λ _. tt)
    (IsAskable-if (bytes_eq word (codes "quit")) Quit Bad (λ _. tt) tt)))))))))

-- what a line asks for has a text that is no longer than the line, and numbers within their bounds
pub IsAskable-request_of : (line : Line) → IsShort line → IsAskable (request_of line)
IsAskable-request_of (line.Text text) short =
    IsAskable-if (is_utf8 text) (text_request text) Bad
    (λ _. IsAskable-if (has_space text) (argument_request (before_first is_space text) (after_first is_space text)) (word_request text)
    (λ _. IsAskable-argument (before_first is_space text) (after_first is_space text) (length-after_first is_space text line_bytes short))
    (IsAskable-word text)) tt
IsAskable-request_of line.Long short = tt
IsAskable-request_of line.End short = tt
