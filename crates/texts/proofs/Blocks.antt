-- Blocks: what is printed by the bytes of a pattern and of its leftovers is what Answers says.
--
--   label-text, head-text      the label, and the pattern with it, as they are printed
--   joined                     the parts of a block
--   lines_text                 the entries' lines
--   cut_lines, leftovers-text  entries, cut off the front of a slice
--   leftovers-front            the same, where the slice is taken apart
--   bare-front                 .. and the entries carry no names, as those of a book
--   pattern-listed             the reply of list and the lent slice
--   by_room, listed-text       the text for them
--   block_text_lem                 the block
--   blocks_are_answers         the law
--
use mathlib.Core.Path.{◌≡◌, refl, sym, ap, ap₂, ◌∙◌}
use mathlib.Core.Bool.{Bool, true, false, cond}
use mathlib.Core.List.{List, [], ◌∷◌, ◌++◌, map, append_assoc}
use mathlib.Core.Logic.{inl, inr}
use Prim.Native.Nat.{ℕ}
use native.Mathlib.Omega.{arith}
use lib.Dec.{leb}
use lib.ListN.{length, take, drop, replicate, length-map, length-replicate, take-append-drop}
use Rattle.terms.specs.Lists.{All}
use Rattle.terms.specs.Term.{Term}
use Rattle.terms.specs.Listing.{IsListing}
use Rattle.terms.specs.Productive.{listing_of}
use Rattle.terms.proofs.All.{all_implies, all_map}
use Rattle.terms.proofs.Theorems.{listing_is_one}
use Rattle.wire.specs.Reply.{Kinded, kinded}
use Rattle.wire.specs.Effect.{Effect}
use Rattle.wire.specs.Row.{write_row}
use Rattle.wire.specs.Vocabulary.{Vocabulary, InOrder, signature, encode_vocabulary}
use Rattle.wire.specs.TermBytes.{encode_term, GoodTerm}
use Rattle.wire.specs.BookBytes.{patterns_bytes}
use Rattle.wire.specs.Leftovers.{entries_bytes}
use Rattle.wire.specs.ListComputed.{listed_into, listed_pattern, listed_vocabulary, listed}
use Rattle.wire.specs.Text.{ascii, newline, decimal}
use Rattle.wire.specs.Printing.{listing_space}
use Rattle.wire.specs.EntryCut.{cut_entries}
use Rattle.wire.proofs.Words.{in_order_well_formed}
use Rattle.wire.proofs.EntriesRead.{GoodKinded}
use Rattle.wire.proofs.EntryCut.{cut-entries}
use Rattle.wire.proofs.Leftovers.{in_linear, into_if, patterns-entries}
use Rattle.wire.proofs.TermBytes.{term-bytes}
use Rattle.wire.proofs.VocabularyWritten.{read-written}
use Rattle.texts.specs.Lexemes.{Token}
use Rattle.texts.specs.Lexicon.{Lexicon, vocabulary_of, GoodLexicon}
use Rattle.texts.specs.Phrases.{Phrase, IsLabel, label_tokens, whole_tokens, phrase_tokens, spell, GoodWhole}
use Rattle.texts.specs.Saying.{Tables, TablesFor, say_phrase}
use Rattle.texts.specs.Leftovers.{leftover_line, leftovers_text}
use Rattle.texts.specs.Answers.{too_many_text, block_text}
use Rattle.texts.specs.Answering.{label_text, leftover_line_by, leftovers_by, listed_by}
use Rattle.texts.specs.Laws.{Sayable, BlocksAreAnswers}
use Rattle.texts.proofs.Plain.{plain-name, spell-append}
use Rattle.texts.proofs.Saying.{says-terms, says_phrases}
use Rattle.texts.proofs.Entries.{lexicon-in_order, Entry, phrase-linear, entries-known, entry_sayable}
use Rattle.texts.proofs.BookEntries.{Bare, bare_sayable}

label-text : (u : Token) → IsLabel u → label_text u ≡ spell (label_tokens u)
label-text [] h = refl
label-text (b ∷ u) (inl e) = let z : ◌≡◌ {A = ℕ} 0 1 = cc in absurd (omega arith)
label-text (b ∷ u) (inr h) = ap (λ (x : List ℕ). x ++ ascii ": ") (sym (plain-name (b ∷ u) h))

joined : (u a h x y : List ℕ) → u ++ a ≡ h → x ≡ y → u ++ (a ++ (newline ++ (x ++ newline))) ≡ (h ++ newline) ++ (y ++ newline)
joined u a h x y e q =
    sym (append_assoc u a (newline ++ (x ++ newline)))
    ∙ ap₂ (λ (a b : List ℕ). a ++ (newline ++ (b ++ newline))) e q
    ∙ sym (append_assoc h newline (y ++ newline))

-- ---- entries

module _ (X : Lexicon) (vs : List Token) (s : ℕ) (T : Tables) (good : GoodLexicon X) (tables : TablesFor X vs T) where
  abbrev written : Kinded → List ℕ
  written e = encode_term (vocabulary_of X) e.kind e.term

  lines_text : (l : List Term) → All (Sayable X vs s) l →
      write_row (leftover_line_by T) (map written (map (kinded s) l)) ≡ write_row (leftover_line X vs s) l
  lines_text [] h = refl
  lines_text (e ∷ l) h =
      ap₂ (λ (x y : List ℕ). (x ++ newline) ++ y) (says-terms X vs s e T good h.0 tables) (lines_text l h.1)

  module _ (l : List Term) (goods : All (GoodTerm (vocabulary_of X) s) l) (sayable : All (Sayable X vs s) l) where
    cut_lines : (r : List ℕ) →
        write_row (leftover_line_by T) (cut_entries (length l) (patterns_bytes (vocabulary_of X) s l ++ r)) ≡ write_row (leftover_line X vs s) l
    cut_lines r =
        let W = vocabulary_of X in
        ap₂ (λ (n : ℕ) (b : List ℕ). write_row (leftover_line_by T) (cut_entries n (b ++ r))) (sym (length-map l (kinded s))) (patterns-entries W s l)
        ∙ ap (write_row (leftover_line_by T))
        (cut-entries W (lexicon-in_order X good) (map (kinded s) l) r (all_map (GoodKinded W) (kinded s) l goods))
        ∙ lines_text l sayable

    -- Behind the entries anything may stand.
    leftovers-text : (r : List ℕ) → leftovers_by T (length l) (patterns_bytes (vocabulary_of X) s l ++ r) ≡ leftovers_text X vs s l
    leftovers-text r =
        let n = decimal (length l) in
        ap (λ (x : List ℕ). ascii "# " ++ (n ++ (ascii " leftovers:\n" ++ (x ++ (ascii "# end of " ++ (n ++ ascii " leftovers\n")))))) (cut_lines r)

    pub leftovers-front : (m : ℕ) (b : List ℕ) → take m b ≡ patterns_bytes (vocabulary_of X) s l → leftovers_by T (length l) b ≡ leftovers_text X vs s l
    leftovers-front m b e =
        ap (leftovers_by T (length l)) (sym (take-append-drop m b) ∙ ap (λ (x : List ℕ). x ++ drop m b) e) ∙ leftovers-text (drop m b)

pub bare-front : (X : Lexicon) (s : ℕ) (T : Tables) → GoodLexicon X → TablesFor X [] T → (l : List Term) → All (Bare X s) l →
    (m : ℕ) (b : List ℕ) → take m b ≡ patterns_bytes (vocabulary_of X) s l → leftovers_by T (length l) b ≡ leftovers_text X [] s l
bare-front X s T good tables l h =
    leftovers-front X [] s T good tables l (all_implies (Bare X s) (GoodTerm (vocabulary_of X) s) (λ e b. b.0.good) l h)
    (all_implies (Bare X s) (Sayable X [] s) (bare_sayable X s) l h)

-- ---- patterns

module _ (X : Lexicon) (p : Phrase) (T : Tables) (good : GoodLexicon X) (whole : GoodWhole X p) (tables : TablesFor X p.variables T) where
  abbrev W : Vocabulary
  W = vocabulary_of X

  head-text : label_text p.label ++ say_phrase T (encode_term W p.kind p.term) ≡ spell (whole_tokens X p)
  head-text =
      ap₂ ◌++◌ (label-text p.label whole.label)
      (says_phrases X p.variables p.kind p.term T good whole.phrase tables)
      ∙ sym (spell-append (label_tokens p.label) (phrase_tokens X p.variables p.kind p.term))

  module _ (l : List Term) (listing : IsListing (signature W) p.kind p.term l) where
    known : All (Entry X p.kind p.term) l
    known = entries-known X p.variables p.kind p.term whole.phrase l listing

    in_order : InOrder W
    in_order = lexicon-in_order X good

    pattern-listed : (out : List ℕ) →
        listed (encode_vocabulary W) (encode_term W p.kind p.term) out ≡ listed_into out (length l) (patterns_bytes W p.kind l)
    pattern-listed out =
        let b = encode_term W p.kind p.term in
        let linear = phrase-linear X p.variables p.kind p.term whole.phrase in
        let one = listing_is_one (signature W) p.term p.kind (in_order_well_formed W in_order) whole.phrase.term.good.sorted.sorted linear in
        let same : l ≡ listing_of (signature W) p.kind p.term = (one l).0 listing in
        ap (listed_vocabulary b out) (read-written W in_order)
        ∙ ap (listed_pattern W out)
        (in_linear W b (kinded p.kind p.term) in_order (term-bytes W in_order p.kind p.term whole.phrase.term.good)
        (record { term = whole.phrase.term; linear = linear }))
        ∙ ap (λ (m : List Term). listed_into out (length (map (kinded p.kind) m)) (entries_bytes W (map (kinded p.kind) m))) (sym same)
        ∙ ap₂ (listed_into out) (length-map l (kinded p.kind)) (sym (patterns-entries W p.kind l))

    entries-text : (r : List ℕ) → leftovers_by T (length l) (patterns_bytes W p.kind l ++ r) ≡ leftovers_text X p.variables p.kind l
    entries-text =
        leftovers-text X p.variables p.kind T good tables l
        (all_implies (Entry X p.kind p.term) (GoodTerm W p.kind) (λ e h. h.term.good) l known)
        (all_implies (Entry X p.kind p.term) (Sayable X p.variables p.kind)
        (entry_sayable X p.variables p.kind p.term whole.phrase) l known)

    module _ (out : List ℕ) where
      abbrev b : List ℕ
      b = patterns_bytes W p.kind l

      by_room : (c : Bool) →
          listed_by T (into_if c out (length l) b).reply (into_if c out (length l) b).after ≡
          cond c (leftovers_text X p.variables p.kind l) (too_many_text (length b))
      by_room true = entries-text (drop (length b) out)
      by_room false = refl

      abbrev done : Effect
      done = listed (encode_vocabulary W) (encode_term W p.kind p.term) out

      listed-text : (n : ℕ) → length out ≡ n →
          listed_by T done.reply done.after ≡ cond (leb (length b) n) (leftovers_text X p.variables p.kind l) (too_many_text (length b))
      listed-text n size =
          ap (λ (d : Effect). listed_by T d.reply d.after) (pattern-listed out)
          ∙ by_room (leb (length b) (length out))
          ∙ ap (λ (k : ℕ). cond (leb (length b) k) (leftovers_text X p.variables p.kind l) (too_many_text (length b))) size

      block_text_lem : length out ≡ listing_space →
          ascii "# "
          ++ (label_text p.label
          ++ (say_phrase T (encode_term W p.kind p.term) ++ (newline ++ (listed_by T done.reply done.after ++ newline)))) ≡
          block_text X p l
      block_text_lem size =
          ap (λ (x : List ℕ). ascii "# " ++ x)
          (joined (label_text p.label) (say_phrase T (encode_term W p.kind p.term)) (spell (whole_tokens X p)) _ _ head-text
          (listed-text listing_space size))

pub blocks_are_answers : BlocksAreAnswers
blocks_are_answers X p T l good whole tables listing =
    block_text_lem X p T good whole tables l listing (replicate listing_space 0) (length-replicate {A = ℕ} listing_space 0)
