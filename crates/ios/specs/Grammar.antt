-- The form of a list's text as a grammar: each production relates bytes or words to what they say. Assumes nothing.
use Rattle.std.specs.Prelude.{◌≡◌, ℕ, ◌+◌, ◌<◌, ◌≤◌, Bool, true, false, List, [], ◌∷◌, ◌++◌, length, Some, None, codes, decimal, Option, ◌==◌, ◌≢◌}
use Rattle.acl.specs.declared.terms.Action.{Action}
use Rattle.acl.specs.declared.terms.Action.TheVariants.{Deny, Permit}
use Rattle.acl.specs.declared.terms.Protocol.{Protocol}
use Rattle.acl.specs.declared.terms.Protocol.TheVariants.{Any as AnyProtocol, Number}
use Rattle.acl.specs.declared.terms.PortTest.{PortTest}
use Rattle.acl.specs.declared.terms.PortTest.TheVariants.{Any as AnyPort, Eq, Neq, Lt, Gt, Range}
use Rattle.acl.specs.Shapes.{Shape}
use Rattle.acl.specs.Terms.{ports_allowed}
use Rattle.words.specs.Words.{blank, fresh}
use Rattle.words.specs.Meaning.{AddressText}
use Rattle.ios.specs.declared.family.Family.{Family}
use Rattle.ios.specs.declared.family.Family.TheVariants.{Standard, Extended}
use Rattle.ios.specs.declared.family.Network.{Network}
use Rattle.ios.specs.Entries.{EntryShape, numbered, network, everywhere, standard_entry, extended_entry}
use Rattle.ios.specs.Parsing.{family_of}
use Rattle.ios.specs.Reading.{number_or_none}

-- no byte of a list is b
abbrev pub Lacks : ℕ → List ℕ → Type 0
Lacks b [] = Unit {0}
Lacks b (c ∷ cs) = (c ≢ b) × Lacks b cs

-- the last byte is b
abbrev pub ends_in : ℕ → List ℕ → Bool
ends_in b [] = false
ends_in b (c ∷ []) = c == b
ends_in b (c ∷ d ∷ cs) = ends_in b (d ∷ cs)

-- a text and its text lines: each ends at byte 10, or at bytes 13 and 10, and the last may lack its end
pub data TextText : List ℕ → List (List ℕ) → Type 0 where
  no_text : TextText [] []
  unended : {l : List ℕ} → 0 < length l → Lacks 10 l → TextText l (l ∷ [])
  by_feed : {l t : List ℕ} {ls : List (List ℕ)} → Lacks 10 l → ends_in 13 l ≡ false → TextText t ls → TextText (l ++ (10 ∷ t)) (l ∷ ls)
  by_return : {l t : List ℕ} {ls : List (List ℕ)} → Lacks 10 l → TextText t ls → TextText (l ++ (13 ∷ (10 ∷ t))) (l ∷ ls)

-- no byte is a blank
abbrev pub Solid : List ℕ → Type 0
Solid [] = Unit {0}
Solid (b ∷ bs) = (blank b ≡ false) × Solid bs

-- a text line and its words: runs of bytes other than blanks
pub data WordsText : List ℕ → List (List ℕ) → Type 0 where
  no_words : WordsText [] []
  past_blank : {b : ℕ} {bs : List ℕ} {ws : List (List ℕ)} → blank b ≡ true → WordsText bs ws → WordsText (b ∷ bs) ws
  word : {w bs : List ℕ} {ws : List (List ℕ)} → 0 < length w → Solid w → fresh bs ≡ true → WordsText bs ws → WordsText (w ++ bs) (w ∷ ws)

-- a word that is a keyword
abbrev pub Keyword : List ℕ → List ℕ → Type 0
Keyword w k = w ≡ k

-- an action
pub data ActionText : List ℕ → Action → Type 0 where
  permit : {w : List ℕ} → Keyword w (codes "permit") → ActionText w Permit
  deny : {w : List ℕ} → Keyword w (codes "deny") → ActionText w Deny

-- a protocol, by name or by number
pub data ProtocolText : List ℕ → Protocol → Type 0 where
  ip : {w : List ℕ} → Keyword w (codes "ip") → ProtocolText w AnyProtocol
  icmp : {w : List ℕ} → Keyword w (codes "icmp") → ProtocolText w (Number 1)
  igmp : {w : List ℕ} → Keyword w (codes "igmp") → ProtocolText w (Number 2)
  tcp : {w : List ℕ} → Keyword w (codes "tcp") → ProtocolText w (Number 6)
  udp : {w : List ℕ} → Keyword w (codes "udp") → ProtocolText w (Number 17)
  number : {w : List ℕ} {n : ℕ} → w ≡ decimal n → n ≤ 255 → ProtocolText w (Number n)

-- `any`, `host A` or `A W`
pub data NetworkText : List (List ℕ) → Network → Type 0 where
  any : {k : List ℕ} → Keyword k (codes "any") → NetworkText (k ∷ []) everywhere
  host : {k w : List ℕ} {a : ℕ} → Keyword k (codes "host") → AddressText w a → NetworkText (k ∷ (w ∷ [])) (network a 0)
  pair : {w v : List ℕ} {a m : ℕ} → AddressText w a → AddressText v m → NetworkText (w ∷ (v ∷ [])) (network a m)

-- in a standard line A alone means host A
pub data SourceText : List (List ℕ) → Network → Type 0 where
  side : {ws : List (List ℕ)} {n : Network} → NetworkText ws n → SourceText ws n
  lone : {w : List ℕ} {a : ℕ} → AddressText w a → SourceText (w ∷ []) (network a 0)

-- a port 0–65535
pub record PortText (w : List ℕ) (n : ℕ) : Type 0 where
  pub bytes : w ≡ decimal n
  pub small : n ≤ 65535

-- a port test, or none
pub data PortsText : List (List ℕ) → PortTest → Type 0 where
  no_test : PortsText [] AnyPort
  eq : {k w : List ℕ} {n : ℕ} → Keyword k (codes "eq") → PortText w n → PortsText (k ∷ (w ∷ [])) (Eq n)
  neq : {k w : List ℕ} {n : ℕ} → Keyword k (codes "neq") → PortText w n → PortsText (k ∷ (w ∷ [])) (Neq n)
  lt : {k w : List ℕ} {n : ℕ} → Keyword k (codes "lt") → PortText w n → PortsText (k ∷ (w ∷ [])) (Lt n)
  gt : {k w : List ℕ} {n : ℕ} → Keyword k (codes "gt") → PortText w n → PortsText (k ∷ (w ∷ [])) (Gt n)
  range : {k w v : List ℕ} {a b : ℕ} → Keyword k (codes "range") → PortText w a → PortText v b → a ≤ b → PortsText (k ∷ (w ∷ (v ∷ []))) (Range a b)

-- the log mark, or none
pub data LogText : List (List ℕ) → Bool → Type 0 where
  no_log : LogText [] false
  logged : {k : List ℕ} → Keyword k (codes "log") → LogText (k ∷ []) true

-- the words after the list number of a line, by the form of the list
pub data EntryText : Family → List (List ℕ) → EntryShape → Type 0 where
  standard : {w : List ℕ} {ss gs : List (List ℕ)} {a : Action} {n : Network} {g : Bool}
      → ActionText w a → SourceText ss n → LogText gs g
      → EntryText Standard (w ∷ (ss ++ gs)) (standard_entry a n g)
  extended : {w v : List ℕ} {ss ts ds us gs : List (List ℕ)} {a : Action} {p : Protocol} {s d : Network} {t u : PortTest} {g : Bool}
      → ActionText w a → ProtocolText v p
      → NetworkText ss s → PortsText ts t → ports_allowed p t ≡ true
      → NetworkText ds d → PortsText us u → ports_allowed p u ≡ true
      → LogText gs g
      → EntryText Extended (w ∷ (v ∷ (ss ++ (ts ++ (ds ++ (us ++ gs)))))) (extended_entry a p s t d u g)

-- a line of the list n: its words, and its entry
pub data LineText : ℕ → List (List ℕ) → EntryShape → Type 0 where
  numbered_line : {n : ℕ} {f : Family} {k w : List ℕ} {ws : List (List ℕ)} {e : EntryShape}
      → Keyword k (codes "access-list") → w ≡ decimal n → family_of n ≡ Some f → EntryText f ws e
      → LineText n (k ∷ (w ∷ ws)) e

-- a remark in the list n, with any words after it
pub data RemarkText : ℕ → List (List ℕ) → Type 0 where
  numbered_remark : {n : ℕ} {f : Family} {k w r : List ℕ} {ws : List (List ℕ)}
      → Keyword k (codes "access-list") → w ≡ decimal n → family_of n ≡ Some f → Keyword r (codes "remark")
      → RemarkText n (k ∷ (w ∷ (r ∷ ws)))

-- no word, or a first word that begins with !
pub data PassedText : List (List ℕ) → Type 0 where
  blank_line : PassedText []
  comment_line : {bs : List ℕ} {ws : List (List ℕ)} → PassedText ((33 ∷ bs) ∷ ws)

-- the list number that stood before, if one did, is n
abbrev pub Follows : Option ℕ → ℕ → Type 0
Follows None n = Unit {0}
Follows (Some known) n = known ≡ n

-- text lines of at most 256 bytes and their entries, from the list number that is known before them to the one known after
pub data Lines : Option ℕ → List (List ℕ) → List EntryShape → Option ℕ → Type 0 where
  no_lines : {known : Option ℕ} → Lines known [] [] known
  passed_line : {known after : Option ℕ} {l : List ℕ} {ws ls : List (List ℕ)} {es : List EntryShape}
      → length l ≤ 256 → WordsText l ws → PassedText ws → Lines known ls es after → Lines known (l ∷ ls) es after
  remark_line : {known after : Option ℕ} {n : ℕ} {l : List ℕ} {ws ls : List (List ℕ)} {es : List EntryShape}
      → length l ≤ 256 → WordsText l ws → RemarkText n ws → Follows known n → Lines (Some n) ls es after → Lines known (l ∷ ls) es after
  good_line : {known after : Option ℕ} {n : ℕ} {l : List ℕ} {ws ls : List (List ℕ)} {e : EntryShape} {es : List EntryShape}
      → length l ≤ 256 → WordsText l ws → LineText n ws e → Follows known n → Lines (Some n) ls es after → Lines known (l ∷ ls) (e ∷ es) after

-- entries as lines numbered from k + 1 on
abbrev pub numbered_from : ℕ → List EntryShape → List Shape
numbered_from k [] = []
numbered_from k (e ∷ es) = numbered (k + 1) e ∷ numbered_from (k + 1) es

-- a text of the list n, 0 where no number stands, and the lines that it yields
pub record ListText (bs : List ℕ) (n : ℕ) (ss : List Shape) : Type 0 where
  pub lines : List (List ℕ)
  pub entries : List EntryShape
  pub known : Option ℕ
  pub cut : TextText bs lines
  pub small : length bs ≤ 65536
  pub form : Lines None lines entries known
  pub few : length entries ≤ 1024
  pub number : n ≡ number_or_none known
  pub shapes : ss ≡ numbered_from 0 entries
