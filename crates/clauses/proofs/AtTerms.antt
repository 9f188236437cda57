-- AtTerms: a term, by what it begins with.
--
--   word-bytes             a word's number and map are put before the bytes of its places
--   term_leaf, term-whole  a term that is read whole or refused
--   term-bad, term-read, map-small    a word, by what is read at its places
--   word-within, word-lent, word_some, word-known, word-refused, word-map, word_read_lem     the same laws where read_term has come to a word
--
use mathlib.Core.Path.{◌≡◌, refl, sym, ap, subst, ◌∙◌}
use mathlib.Core.List.{List, [], ◌∷◌, ◌++◌, append_assoc}
use Prim.Native.Nat.{ℕ, zero, suc, ◌+◌, ◌-◌, ◌<◌, ◌≤◌}
use native.Mathlib.Omega.{arith}
use lib.ListN.{length, get_or, take, set, length-append, length-set}
use lib.Seq.{take-add, drop-cons, take-set-lt, set_at, length-take-le}
use Rattle.wire.specs.Map.{number, flags, written_flags}
use Rattle.wire.specs.Vocabulary.{Vocabulary, word, most_words}
use Rattle.wire.specs.TermBytes.{encode_all, written_map, most_bytes}
use Rattle.texts.specs.Lexemes.{Lexeme, lexemes_from}
use Rattle.texts.specs.Faults.{Parsed, parsed, bad, parse_then, too_deep}
use Rattle.texts.specs.PhraseReading.{TermRead, TermsRead, word_bytes, fault_at, read_node, parse_term, read_behind}
use Rattle.texts.specs.Tabled.{names_in, tabled_places, tabled_vocabulary}
use Rattle.clauses.specs.Reading.{Answer, Within, Lent, Tables, seen_at, Reads, place_flags, TermTo, TermsTo, Below, word_read, WordAt, HeadIs, HeadRead, ReadsPlaces, ReadsTerm}
use Rattle.faults.specs.declared.Fault.{Fault}
use Rattle.clauses.specs.declared.Reached.{Reached}
use Rattle.std.specs.Prelude.{Ok, Err}
use Rattle.clauses.specs.declared.Head.{Head}
use Rattle.clauses.specs.declared.Head.TheVariants.{Leaf, Word}
use Rattle.clauses.proofs.Flags.{written-full, flags-below}
use Rattle.clauses.proofs.Tables.{map_at_lem, kinds-count, places-few}
use Rattle.clauses.proofs.AtPlaces.{follow, refuse}

-- ---- the bytes of a word

two_more : (o : List ℕ) (to : ℕ) → to + 2 ≤ length o → take (to + 2) o ≡ take to o ++ (get_or o to 0 ∷ get_or o (suc to) 0 ∷ [])
two_more o to h =
    take-add to 2 o
    ∙ ap (λ (l : List ℕ). take to o ++ take 2 l) (drop-cons o to 0 (omega arith) ∙ ap (λ (l : List ℕ). get_or o to 0 ∷ l) (drop-cons o (suc to) 0 (omega arith)))

put_two : (p x : List ℕ) (to y z f m : ℕ) → length p ≡ to → set (set (p ++ (y ∷ z ∷ x)) to f) (to + 1) m ≡ p ++ (f ∷ m ∷ x)
put_two p x to y z f m e =
    ap (λ (l : List ℕ). set l (to + 1) m) (set_at p y (z ∷ x) f to e ∙ sym (append_assoc p (f ∷ []) (z ∷ x)))
    ∙ set_at (p ++ (f ∷ [])) z x m (to + 1) (omega (arith, length-append p (f ∷ [])))
    ∙ append_assoc p (f ∷ []) (m ∷ x)

pub word-bytes : (o o₂ x : List ℕ) (to q f m : ℕ) → length o ≡ most_bytes → length o₂ ≡ most_bytes → to + 2 ≤ most_bytes → q ≤ most_bytes →
    take q o₂ ≡ take (to + 2) o ++ x → take q (set (set o₂ to f) (to + 1) m) ≡ take to o ++ (f ∷ m ∷ x)
word-bytes o o₂ x to q f m e e₂ fits inside written =
    let first = length-take-le (to + 2) o (omega arith) in
    let all = length-take-le q o₂ (omega arith) in
    let sum = ap length written in
    let parts = length-append (take (to + 2) o) x in
    let long : to + 2 ≤ q = omega arith in
    take-set-lt q (set o₂ to f) (to + 1) m (omega arith)
    ∙ ap (λ (l : List ℕ). set l (to + 1) m)
    (take-set-lt q o₂ to f (omega arith)
    ∙ ap (λ (l : List ℕ). set l to f) (written ∙ ap (λ (l : List ℕ). l ++ x) (two_more o to (omega arith)) ∙ append_assoc (take to o) (get_or o to 0 ∷ get_or o (suc to) 0 ∷ []) x))
    ∙ put_two (take to o) x to (get_or o to 0) (get_or o (suc to) 0) f m (length-take-le to o (omega arith))

-- ---- a term

module _ (b q r o v : List ℕ) (at k n left due to seen : ℕ) where
  abbrev vocabulary : Vocabulary
  vocabulary = tabled_vocabulary k n r

  abbrev node : Below → Parsed TermRead
  node below = read_node below (names_in b (take n q)) vocabulary left due (seen_at b v seen to) (lexemes_from b at)

  abbrev term : ℕ → Parsed TermRead
  term levels = parse_term (names_in b (take n q)) vocabulary levels due (seen_at b v seen to) (lexemes_from b at)

  pub term_leaf : (o' v' : List ℕ) (a : Answer) → ((below : Below) → Reads (TermTo vocabulary b o to o' v') (node below) a) → Reads (TermTo vocabulary b o to o' v') (term left) a
  term_leaf o' v' a = go left
    where
      go : (levels : ℕ) →
          ((below : Below) → Reads (TermTo vocabulary b o to o' v') (read_node below (names_in b (take n q)) vocabulary levels due (seen_at b v seen to) (lexemes_from b at)) a) →
          Reads (TermTo vocabulary b o to o' v') (term levels) a
      go zero h = h (λ k s' l'. fault_at too_deep k l')
      go (suc levels) h = h (parse_term (names_in b (take n q)) vocabulary levels)

  pub term-whole : (o' v' : List ℕ) (h : Head) (p : Reached) → h ≡ Leaf p → HeadIs vocabulary b n left o to v seen o' v' node (Ok h) → Reads (TermTo vocabulary b o to o' v') (term left) (Ok p)
  term-whole o' v' h p is head = term_leaf o' v' (Ok p) (subst (λ (x : Head). HeadIs vocabulary b n left o to v seen o' v' node (Ok x)) is head)

  -- A word, with what is read at its places.
  module _ (f e : ℕ) (word_is : WordAt vocabulary b n left to v seen node f e) where
    abbrev kinds : List ℕ
    kinds = (word vocabulary f).kinds

    abbrev below : Below
    below = parse_term (names_in b (take n q)) vocabulary (left - 1)

    abbrev behind : Parsed TermsRead
    behind = read_behind below f kinds (seen_at b v seen (to + word_bytes)) (lexemes_from b e)

    one_less : term left ≡ parse_then behind (word_read f)
    one_less = go left word_is.some ∙ word_is.behind below
      where
        go : (levels : ℕ) → 0 < levels → term levels ≡ read_node (parse_term (names_in b (take n q)) vocabulary (levels - 1)) (names_in b (take n q)) vocabulary levels due (seen_at b v seen to) (lexemes_from b at)
        go zero h = absurd (omega arith)
        go (suc levels) h =
            ap (λ (i : ℕ). read_node (parse_term (names_in b (take n q)) vocabulary i) (names_in b (take n q)) vocabulary (suc levels) due (seen_at b v seen to) (lexemes_from b at))
            (let z : levels ≡ suc levels - 1 = omega arith in z)

    module _ (o₂ v₂ : List ℕ) where
      abbrev Places-read : Answer → Type 0
      Places-read a = Reads (TermsTo vocabulary b o (to + word_bytes) o₂ v₂ (length kinds)) behind a

      pub term-bad : (o₃ v₃ : List ℕ) (x : Fault) → Places-read (Err x) → Reads (TermTo vocabulary b o to o₃ v₃) (term left) (Err x)
      term-bad o₃ v₃ x h = subst (λ (g : Parsed TermRead). Reads (TermTo vocabulary b o to o₃ v₃) g (Err x)) (sym one_less) (refuse _ _ behind (word_read f) x h)

      module _ (p : Reached) (few : n ≤ most_words) (lent : Lent o v) (tables : Tables q r) (read : Places-read (Ok p)) where
        many : length kinds ≡ tabled_places r f
        many = kinds-count k n r f word_is.known few tables.records

        pub map-small : p.map < 256
        map-small = go behind read
          where
            go : (g : Parsed TermsRead) → Reads (TermsTo vocabulary b o (to + word_bytes) o₂ v₂ (length kinds)) g (Ok p) → p.map < 256
            go (parsed ts l) h = omega (arith, h.map, flags-below (place_flags ts.terms) 8 (omega (arith, h.count, many, places-few r f)))
            go (bad x) h = absurd h

        pub term-read : Reads (TermTo vocabulary b o to (set (set o₂ to f) (to + 1) p.map) v₂) (term left) (Ok (record { at = p.at; to = p.to; seen = p.seen; map = 1 }))
        term-read =
            subst (λ (g : Parsed TermRead). Reads (TermTo vocabulary b o to (set (set o₂ to f) (to + 1) p.map) v₂) g (Ok (record { at = p.at; to = p.to; seen = p.seen; map = 1 }))) (sym one_less)
            (follow (TermsTo vocabulary b o (to + word_bytes) o₂ v₂ (length kinds)) (TermTo vocabulary b o to (set (set o₂ to f) (to + 1) p.map) v₂) behind (word_read f) p (Ok (record { at = p.at; to = p.to; seen = p.seen; map = 1 })) read λ ts l h. record {
              behind = h.behind;
              inside = h.inside;
              room = h.room;
              few = h.few;
              seen = h.seen;
              written = word-bytes o o₂ (encode_all vocabulary ts.terms) to p.to f p.map lent.bytes h.lent.bytes word_is.fits h.room h.written
                  ∙ ap (λ (m : ℕ). take to o ++ (f ∷ m ∷ encode_all vocabulary ts.terms)) (map_of ts h);
              map = refl;
              count = refl;
              lent = record { bytes = length-set (set o₂ to f) (to + 1) p.map ∙ length-set o₂ to f ∙ h.lent.bytes; variables = h.lent.variables };
            })
          where
            map_of : (ts : TermsRead) {l : List Lexeme} → TermsTo vocabulary b o (to + word_bytes) o₂ v₂ (length kinds) ts l p → p.map ≡ written_map vocabulary f ts.terms
            map_of ts h =
                h.map
                ∙ sym (written-full (tabled_places r f) ts.terms (places-few r f) (h.count ∙ many))
                ∙ ap (λ (m : ℕ). number (written_flags (flags m) ts.terms)) (sym (map_at_lem k n r f word_is.known))

-- ---- the same, where read_term has come to a word

module _ (b q r o v : List ℕ) (at n left due to seen : ℕ) (w : Within b at n to seen) (lent : Lent o v) (tables : Tables q r)
    (o' v' : List ℕ) (h : Head) (f e : ℕ) (is : h ≡ Word f e) (head : HeadRead b at left due q n r o to v seen o' v' (Ok h)) where
  abbrev standing : (k : ℕ) →
      (o' ≡ o) × (v' ≡ v) × WordAt (tabled_vocabulary k n r) b n left to v seen (λ below. read_node below (names_in b (take n q)) (tabled_vocabulary k n r) left due (seen_at b v seen to) (lexemes_from b at)) f e
  standing k = subst (λ (x : Head). HeadIs (tabled_vocabulary k n r) b n left o to v seen o' v' (λ below. read_node below (names_in b (take n q)) (tabled_vocabulary k n r) left due (seen_at b v seen to) (lexemes_from b at)) (Ok x)) is (head k)

  pub word-within : Within b e n (to + 2) seen
  word-within = record { short = w.short; inside = (standing 0).2.inside; words = w.words; room = (standing 0).2.fits; few = w.few }

  pub word-lent : Lent o' v'
  word-lent = record { bytes = ap length (standing 0).0 ∙ lent.bytes; variables = ap length (standing 0).1 ∙ lent.variables }

  pub word_some : 0 < left
  word_some = (standing 0).2.some

  pub word-known : f < n
  word-known = (standing 0).2.known

  module _ (o₂ v₂ : List ℕ) (y : Answer) (places : ReadsPlaces b e (left - 1) f 0 q n r o' (to + 2) v' seen o₂ v₂ y) where
    told : (k : ℕ) →
        Reads (TermsTo (tabled_vocabulary k n r) b o (to + 2) o₂ v₂ (length (word (tabled_vocabulary k n r) f).kinds))
        (read_behind (parse_term (names_in b (take n q)) (tabled_vocabulary k n r) (left - 1)) f (word (tabled_vocabulary k n r) f).kinds (seen_at b v seen (to + 2)) (lexemes_from b e)) y
    told k =
        subst (λ (x : List ℕ). Reads (TermsTo (tabled_vocabulary k n r) b x (to + 2) o₂ v₂ (length (word (tabled_vocabulary k n r) f).kinds)) (read_behind (parse_term (names_in b (take n q)) (tabled_vocabulary k n r) (left - 1)) f (word (tabled_vocabulary k n r) f).kinds (seen_at b v seen (to + 2)) (lexemes_from b e)) y) (standing k).0
        (subst (λ (x : List ℕ). Reads (TermsTo (tabled_vocabulary k n r) b o' (to + 2) o₂ v₂ (length (word (tabled_vocabulary k n r) f).kinds)) (read_behind (parse_term (names_in b (take n q)) (tabled_vocabulary k n r) (left - 1)) f (word (tabled_vocabulary k n r) f).kinds (seen_at b x seen (to + 2)) (lexemes_from b e)) y) (standing k).1
        (places k))

  module _ (o₂ v₂ : List ℕ) where
    pub word-refused : (o₃ v₃ : List ℕ) (x : Fault) → ReadsPlaces b e (left - 1) f 0 q n r o' (to + 2) v' seen o₂ v₂ (Err x) → ReadsTerm b at left due q n r o to v seen o₃ v₃ (Err x)
    word-refused o₃ v₃ x places k = term-bad b q r o v at k n left due to seen f e (standing k).2 o₂ v₂ o₃ v₃ x (told o₂ v₂ (Err x) places k)

    module _ (p : Reached) (places : ReadsPlaces b e (left - 1) f 0 q n r o' (to + 2) v' seen o₂ v₂ (Ok p)) where
      pub word-map : p.map < 256
      word-map = map-small b q r o v at 0 n left due to seen f e (standing 0).2 o₂ v₂ p w.words lent tables (told o₂ v₂ (Ok p) places 0)

      pub word_read_lem : (o₃ : List ℕ) → o₃ ≡ set (set o₂ to f) (to + 1) p.map →
          ReadsTerm b at left due q n r o to v seen o₃ v₂ (Ok (record { at = p.at; to = p.to; seen = p.seen; map = 1 }))
      word_read_lem o₃ eq k =
          subst (λ (x : List ℕ). Reads (TermTo (tabled_vocabulary k n r) b o to x v₂) (parse_term (names_in b (take n q)) (tabled_vocabulary k n r) left due (seen_at b v seen to) (lexemes_from b at)) (Ok (record { at = p.at; to = p.to; seen = p.seen; map = 1 }))) (sym eq)
          (term-read b q r o v at k n left due to seen f e (standing k).2 o₂ v₂ p w.words lent tables (told o₂ v₂ (Ok p) places k))
