-- Calls: what strike promises.
--
--   Struck, leaving n k, full      the answer: so many bytes and so many entries more, or no room
--   Put ls n before after n' k    ls is written behind the first n bytes: then it is n' bytes, and k entries more
--   LeftOf ls n before after r    the answer r: ls is put so, or does not fit
--   leaves_of W s t es        the bytes of what remains of the entries es behind the pattern t
--   AreaAt                   an area of entries and a pattern of one kind; the copy has room for each entry with the pattern
--   StrikesArea              what the entries leave against the pattern is put, if there are marks enough for its bytes
--
use Rattle.std.specs.Prelude.{◌≡◌, Result, Ok, Err, List, map, ℕ, ◌+◌, ◌≤◌, length}
use Rattle.terms.specs.Lists.{All}
use Rattle.terms.specs.Term.{Term}
use Rattle.terms.specs.Book.{against}
use Rattle.wire.specs.Vocabulary.{Vocabulary, signature}
use Rattle.wire.specs.TermBytes.{encode_term}
use Rattle.wire.specs.BookBytes.{patterns_bytes}
use Rattle.extents.specs.Extents.{most_extent}
use Rattle.others.specs.Listed.{FitBehind, Listed}
use Rattle.cuts.specs.Entries.{EntryOf, PatternOf, TablesOf}
use Rattle.strikes.specs.declared.Left.{Left}
use Rattle.others.specs.declared.Full.{Full}

abbrev pub Struck : Type 0
Struck = Result Left Full

abbrev pub leaving : ℕ → ℕ → Struck
leaving n k = Ok (record { bytes = n; entries = k })

abbrev pub full : Struck
full = Err (record {})

pub record Put (ls : List (List ℕ)) (n : ℕ) (before after : List ℕ) (n' k : ℕ) : Type 0 where
  pub listed : Listed ls n n' before after
  pub count : k ≡ length ls

abbrev pub LeftOf : List (List ℕ) → ℕ → List ℕ → List ℕ → Struck → Type 0
LeftOf ls n before after (Ok l) = Put ls n before after l.bytes l.entries
LeftOf ls n before after (Err e) = FitBehind ls n (length before) → ⊥

abbrev pub leaves_of : Vocabulary → ℕ → Term → List Term → List (List ℕ)
leaves_of W s t es = map (encode_term W s) (against (signature W) t es)

pub record AreaAt (area pattern siblings : List ℕ) (copied : ℕ) : Type 0 where
  pub vocabulary : Vocabulary
  pub kind : ℕ
  pub entries : List Term
  pub term : Term
  pub tables : TablesOf vocabulary siblings
  pub each : All (EntryOf vocabulary kind) entries
  pub pattern_of : PatternOf vocabulary kind term
  pub stands : area ≡ patterns_bytes vocabulary kind entries
  pub begins : pattern ≡ encode_term vocabulary kind term
  pub copy : All (λ e. length (encode_term vocabulary kind e) + length (encode_term vocabulary kind term) ≤ copied) entries
  pub small : copied ≤ most_extent

abbrev pub StrikesArea : List ℕ → List ℕ → ℕ → List ℕ → ℕ → List ℕ → List ℕ → Struck → Type 0
StrikesArea area pattern marked siblings copied before after r =
    (h : AreaAt area pattern siblings copied) → length pattern ≤ marked →
    LeftOf (leaves_of h.vocabulary h.kind h.term h.entries) 0 before after r
