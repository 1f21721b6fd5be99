-- What a text line of the header part says: nothing, a header, or the column at which it is malformed. Assumes nothing.
use Rattle.std.specs.Prelude.{ℕ, Bool, true, cond, List, [], ◌∷◌, length, Some, None, Ok, Err, Option, Result, nat_lt}
use Rattle.acl.specs.declared.header.Header.{Header}
use Rattle.acl.specs.declared.refusal.Refusal.TheVariants.{BadWord}
use Rattle.words.specs.Words.{Spanned}
use Rattle.words.specs.Cursor.{Rest, rest_of, Step, stop, onward, address_of, number_of}
use Rattle.words.specs.Keywords.{comment}

-- the header of these five numbers
abbrev pub header_by : ℕ → ℕ → ℕ → ℕ → ℕ → Header
header_by s d p sp dp = record { source = s; destination = d; protocol = p; source_port = sp; destination_port = dp }

-- a header ends with its last word
abbrev pub closed : Header → Rest → List Spanned → Step Header
closed h r [] = Ok (h, r)
closed h r (w ∷ ws) = Err (stop BadWord w.column)

-- source and destination, dotted; protocol, source port and destination port
abbrev pub header_of : Rest → Step Header
header_of r =
    onward (address_of r) (λ s more.
    onward (address_of more) (λ d more.
    onward (number_of 0 255 more) (λ p more.
    onward (number_of 0 65535 more) (λ sp more.
    onward (number_of 0 65535 more) (λ dp more.
    closed (header_by s d p sp dp) more more.words)))))

-- a text line without a word, or whose first word begins with !, says nothing
abbrev pub passes : List Spanned → Bool
passes [] = true
passes (w ∷ ws) = comment w.bytes

-- a header, or the column of the stop
abbrev pub found_header : Step Header → Result (Option Header) ℕ
found_header (Ok p) = Ok (Some p.0)
found_header (Err s) = Err s.column

-- none where the text line says nothing; a text line over 256 bytes is malformed at column 256
abbrev pub header_line : List ℕ → Result (Option Header) ℕ
header_line line = cond (nat_lt 256 (length line)) (Err 256) (cond (passes (rest_of line).words) (Ok None) (found_header (header_of (rest_of line))))
