-- AtPlaces: what stands at the places of a word.
--
--   mark-later                    before each place but the first stands a comma
--   follow, refuse                what is read behind something, and what is not
--   closes_none, closes_mark, closes_bad      behind the last place
--   places-closed                 where no place is left
--   places-wrong, places-bad, places-read, places-small     at a place
--   AtPlace                       where read_places has come to a place
--   place_inside, place-refused, place-ends, place-small, place_read      the same laws from there
--
use mathlib.Core.Path.{◌≡◌, refl, sym, ap, subst, ◌∙◌}
use mathlib.Core.Bool.{Bool, true, false}
use mathlib.Core.List.{List, [], ◌∷◌, ◌++◌, append-nil, append_assoc}
use Prim.Native.Nat.{ℕ, zero, suc, ◌+◌, ◌*◌, ◌<◌, ◌≤◌}
use native.Mathlib.Numerals.{add-one}
use native.Mathlib.Omega.{arith}
use lib.ListN.{length, get_or, take, drop, length-drop}
use Rattle.terms.specs.Term.{nil, cons}
use Rattle.wire.specs.Map.{number}
use Rattle.wire.specs.Vocabulary.{Vocabulary, word}
use Rattle.wire.specs.TermBytes.{encode_at, encode_all}
use Rattle.wire.proofs.Cond.{cond_true, cond_false}
use Rattle.texts.specs.Lexemes.{Token, Lexeme, blanks, token_size, lexemes_from, token_at}
use Rattle.texts.specs.Names.{same, mark, closing, comma}
use Rattle.texts.specs.Faults.{Parsed, parsed, bad, parse_then, token, rest, places_wrong, places_over}
use Rattle.texts.specs.PhraseReading.{Seen, TermRead, TermsRead, parse_places, parse_term, put_first}
use Rattle.texts.specs.Tabled.{names_in, record_size, tabled_places, tabled_vocabulary}
use Rattle.clauses.specs.Reading.{Answer, Within, Lent, Tables, seen_at, Reads, place_flags, TermTo, TermsTo, Front, Below, read_from, mark_before, Closes, ReadsTerm, ReadsPlaces, Small, joined}
use Rattle.faults.specs.declared.Fault.{Fault}
use Rattle.faults.specs.declared.Reason.TheVariants.{PlacesWrong, PlacesOver}
use Rattle.clauses.specs.declared.Reached.{Reached}
use Rattle.std.specs.Prelude.{Ok, Err}
use Rattle.clauses.proofs.Fronts.{front-token, front-place, front, mark_some}
use Rattle.clauses.proofs.Flags.{flags-below}
use Rattle.clauses.proofs.Tables.{kinds-count, kinds-next, kinds_none, places-few}

pub mark-later : (i : ℕ) → (i ≡ 0 → ⊥) → 44 ≡ mark_before i
mark-later zero h = absurd (h refl)
mark-later (suc i) h = refl

-- ---- behind the last place

module _ (b : List ℕ) (at i f to seen : ℕ) (w : Within b at 0 to seen) where
  stays : (W : Vocabulary) (o v : List ℕ) → Lent o v → (e : ℕ) (r : List Lexeme) → r ≡ lexemes_from b e → e ≤ length b →
      TermsTo W b o to o v 0 (record { terms = nil; seen = seen_at b v seen to }) r (record { at = e; to = to; seen = seen; map = 0 })
  stays W o v lent e r p h = record {
    behind = p;
    inside = h;
    room = w.room;
    few = w.few;
    seen = refl;
    written = sym (append-nil (take to o));
    map = refl;
    count = refl;
    lent = lent;
  }

  pub closes_none : i ≡ 0 → Closes b at i f to seen (Ok (record { at = at; to = to; seen = seen; map = 0 }))
  closes_none e W below o v lent =
      subst (λ (j : ℕ). Reads (TermsTo W b o to o v 0) (read_from below f j [] (seen_at b v seen to) (lexemes_from b at)) (Ok (record { at = at; to = to; seen = seen; map = 0 }))) (sym e)
      (stays W o v lent at (lexemes_from b at) refl w.inside)

  later : (j : ℕ) → (j ≡ 0 → ⊥) → (below : Below) (ks : List ℕ) (s : Seen) (l : List Lexeme) → read_from below f j ks s l ≡ parse_places below f comma ks s l
  later zero h below ks s l = absurd (h refl)
  later (suc j) h below ks s l = refl

  module _ (s : ℕ) (start : s ≡ at + blanks (drop at b)) (some : i ≡ 0 → ⊥) where
    pub closes_mark : (e : ℕ) → same (token_at b s) (41 ∷ []) ≡ true → e ≡ s + token_size (drop s b) →
        Closes b at i f to seen (Ok (record { at = e; to = to; seen = seen; map = 0 }))
    closes_mark e h end W below o v lent =
        let first = front b at s w.inside start (mark_some (token_at b s) 41 h) in
        subst (λ (g : Parsed TermsRead). Reads (TermsTo W b o to o v 0) g (Ok (record { at = e; to = to; seen = seen; map = 0 })))
        (sym (later i some below [] (seen_at b v seen to) (lexemes_from b at) ∙ cond_true (same (token (lexemes_from b at)) (mark closing)) _ _ (ap (λ (u : Token). same u (mark closing)) first.token ∙ h)))
        (stays W o v lent e (rest (lexemes_from b at)) (first.behind ∙ ap (lexemes_from b) (sym end)) (omega (arith, first.inside)))

    pub closes_bad : same (token_at b s) (41 ∷ []) ≡ false → Closes b at i f to seen (Err (record { why = PlacesOver; at = s; of = f }))
    closes_bad h W below o v lent =
        subst (λ (g : Parsed TermsRead). Reads (TermsTo W b o to o v 0) g (Err (record { why = PlacesOver; at = s; of = f })))
        (sym (later i some below [] (seen_at b v seen to) (lexemes_from b at) ∙ cond_false (same (token (lexemes_from b at)) (mark closing)) _ _ (ap (λ (u : Token). same u (mark closing)) (front-token b at s start) ∙ h)))
        (ap (λ (j : ℕ). record { why = places_over; at = j; of = f }) (front-place b at s start))

-- ---- what is read behind something

pub follow : {A B : Type 0} (P : A → List Lexeme → Reached → Type 0) (Q : B → List Lexeme → Reached → Type 0) (g : Parsed A) (h : A → List Lexeme → Parsed B) (p : Reached) (x : Answer) →
    Reads P g (Ok p) → ((a : A) (r : List Lexeme) → P a r p → Reads Q (h a r) x) → Reads Q (parse_then g h) x
follow P Q (parsed a r) h p x e k = k a r e
follow P Q (bad f) h p x e k = absurd e

pub refuse : {A B : Type 0} (P : A → List Lexeme → Reached → Type 0) (Q : B → List Lexeme → Reached → Type 0) (g : Parsed A) (h : A → List Lexeme → Parsed B) (y : Fault) →
    Reads P g (Err y) → Reads Q (parse_then g h) (Err y)
refuse P Q (parsed a r) h y e = absurd e
refuse P Q (bad f) h y e = e

-- ---- at a place

from-mark : (below : Below) (f i x : ℕ) (ks : List ℕ) (s : Seen) (l : List Lexeme) → read_from below f i (x ∷ ks) s l ≡ parse_places below f (mark_before i) (x ∷ ks) s l
from-mark below f zero x ks s l = refl
from-mark below f (suc i) x ks s l = refl

-- The bits of a term are one bit, those of fewer than eight places are below 128.
bit-small : (fs : List Bool) (m n : ℕ) → m ≡ number fs → length fs ≡ n → n ≤ 1 → m ≤ 1
bit-small fs m n e h l = omega (arith, flags-below fs 1 (omega arith))

rest-small : (fs : List Bool) (m n : ℕ) → m ≡ number fs → length fs ≡ n → n ≤ 7 → m ≤ 127
rest-small fs m n e h l = omega (arith, flags-below fs 7 (omega arith))

module _ (b q r o v : List ℕ) (at k n left f i to seen : ℕ) (w : Within b at n to seen) (lent : Lent o v) (tables : Tables q r) (known : f < n) where
  abbrev vocabulary : Vocabulary
  vocabulary = tabled_vocabulary k n r

  abbrev below : Below
  below = parse_term (names_in b (take n q)) vocabulary left

  abbrev kinds : List ℕ
  kinds = (word vocabulary f).kinds

  -- The places from number j on are read as the answer a says.
  abbrev From : ℕ → ℕ → List ℕ → ℕ → List ℕ → ℕ → List ℕ → List ℕ → Answer → Type 0
  From at' j o₁ to₁ v₁ seen₁ o₂ v₂ a =
      Reads (TermsTo vocabulary b o₁ to₁ o₂ v₂ (length (drop j kinds))) (read_from below f j (drop j kinds) (seen_at b v₁ seen₁ to₁) (lexemes_from b at')) a

  pub places-closed : (a : Answer) → i ≡ tabled_places r f → Closes b at i f to seen a → From at i o to v seen o v a
  places-closed a e closes =
      subst (λ (ks : List ℕ). Reads (TermsTo vocabulary b o to o v (length ks)) (read_from below f i ks (seen_at b v seen to) (lexemes_from b at)) a)
      (sym (kinds_none k n r f known w.words tables.records i e)) (closes vocabulary below o v lent)

  module _ (s m : ℕ) (here : i < tabled_places r f) (start : s ≡ at + blanks (drop at b)) (before : m ≡ mark_before i) where
    abbrev due : ℕ
    due = get_or r (record_size * f + 2 + i) 0

    next : drop i kinds ≡ due ∷ drop (suc i) kinds
    next = kinds-next k n r f known w.words tables.records i here

    at_mark : (o₂ v₂ : List ℕ) (a : Answer) →
        Reads (TermsTo vocabulary b o to o₂ v₂ (suc (length (drop (suc i) kinds)))) (parse_places below f m (due ∷ drop (suc i) kinds) (seen_at b v seen to) (lexemes_from b at)) a →
        From at i o to v seen o₂ v₂ a
    at_mark o₂ v₂ a h =
        subst (λ (ks : List ℕ). Reads (TermsTo vocabulary b o to o₂ v₂ (length ks)) (read_from below f i ks (seen_at b v seen to) (lexemes_from b at)) a) (sym next)
        (subst (λ (g : Parsed TermsRead). Reads (TermsTo vocabulary b o to o₂ v₂ (suc (length (drop (suc i) kinds)))) g a)
        (ap (λ (c : ℕ). parse_places below f c (due ∷ drop (suc i) kinds) (seen_at b v seen to) (lexemes_from b at)) before ∙ sym (from-mark below f i due (drop (suc i) kinds) (seen_at b v seen to) (lexemes_from b at))) h)

    pub places-wrong : (o₂ v₂ : List ℕ) → same (token_at b s) (m ∷ []) ≡ false → From at i o to v seen o₂ v₂ (Err (record { why = PlacesWrong; at = s; of = f }))
    places-wrong o₂ v₂ h =
        at_mark o₂ v₂ _
        (subst (λ (g : Parsed TermsRead). Reads (TermsTo vocabulary b o to o₂ v₂ (suc (length (drop (suc i) kinds)))) g (Err (record { why = PlacesWrong; at = s; of = f })))
        (sym (cond_false (same (token (lexemes_from b at)) (mark m)) _ _ (ap (λ (u : Token). same u (mark m)) (front-token b at s start) ∙ h)))
        (ap (λ (j : ℕ). record { why = places_wrong; at = j; of = f }) (front-place b at s start)))

    -- The mark stands there.
    module _ (e : ℕ) (stands : same (token_at b s) (m ∷ []) ≡ true) (end : e ≡ s + token_size (drop s b)) where
      abbrev more : TermRead → List Lexeme → Parsed TermsRead
      more a t = parse_then (parse_places below f comma (drop (suc i) kinds) a.seen t) (λ ts t'. parsed (put_first a.term ts) t')

      first : Front b s (lexemes_from b at)
      first = front b at s w.inside start (mark_some (token_at b s) m stands)

      pub end-inside : e ≤ length b
      end-inside = omega (arith, first.inside)

      behind-mark : (o₂ v₂ : List ℕ) (a : Answer) →
          Reads (TermsTo vocabulary b o to o₂ v₂ (suc (length (drop (suc i) kinds)))) (parse_then (below due (seen_at b v seen to) (lexemes_from b e)) more) a →
          From at i o to v seen o₂ v₂ a
      behind-mark o₂ v₂ a h =
          at_mark o₂ v₂ a
          (subst (λ (g : Parsed TermsRead). Reads (TermsTo vocabulary b o to o₂ v₂ (suc (length (drop (suc i) kinds)))) g a)
          (sym
          (cond_true (same (token (lexemes_from b at)) (mark m)) _ _ (ap (λ (u : Token). same u (mark m)) first.token ∙ stands)
          ∙ ap (λ (t : List Lexeme). parse_then (below due (seen_at b v seen to) t) more) (first.behind ∙ ap (lexemes_from b) (sym end))))
          h)

      module _ (o₁ v₁ : List ℕ) where
        abbrev Term-read : Answer → Type 0
        Term-read a = Reads (TermTo vocabulary b o to o₁ v₁) (below due (seen_at b v seen to) (lexemes_from b e)) a

        pub places-bad : (o₂ v₂ : List ℕ) (x : Fault) → Term-read (Err x) → From at i o to v seen o₂ v₂ (Err x)
        places-bad o₂ v₂ x h = behind-mark o₂ v₂ (Err x) (refuse _ _ (below due (seen_at b v seen to) (lexemes_from b e)) more x h)

        -- The term's end.
        pub term-ends : (p : Reached) → Term-read (Ok p) → Within b p.at n p.to p.seen × Lent o₁ v₁ × (p.map ≤ 1)
        term-ends p h = go (below due (seen_at b v seen to) (lexemes_from b e)) h
          where
            go : (g : Parsed TermRead) → Reads (TermTo vocabulary b o to o₁ v₁) g (Ok p) → Within b p.at n p.to p.seen × Lent o₁ v₁ × (p.map ≤ 1)
            go (parsed a t) h = (
              record { short = w.short; inside = h.inside; words = w.words; room = h.room; few = h.few },
              h.lent,
              bit-small (place_flags (cons a.term nil)) p.map 1 h.map h.count (omega arith),
            )
            go (bad x) h = absurd h

        module _ (o₂ v₂ : List ℕ) (p : Reached) (a : Answer) (read : Term-read (Ok p)) (behind : From p.at (i + 1) o₁ p.to v₁ p.seen o₂ v₂ a) where
          later-read : From p.at (suc i) o₁ p.to v₁ p.seen o₂ v₂ a
          later-read = subst (λ (j : ℕ). From p.at j o₁ p.to v₁ p.seen o₂ v₂ a) (add-one i) behind

          few-behind : length (drop (suc i) kinds) ≤ 7
          few-behind = omega (arith, ap length next, length-drop i kinds, kinds-count k n r f known w.words tables.records, places-few r f)

          pub places-small : Small p.map a
          places-small = go a (read_from below f (suc i) (drop (suc i) kinds) (seen_at b v₁ p.seen p.to) (lexemes_from b p.at)) later-read
            where
              go : (x : Answer) (g : Parsed TermsRead) → Reads (TermsTo vocabulary b o₁ p.to o₂ v₂ (length (drop (suc i) kinds))) g x → Small p.map x
              go (Ok p') (parsed ts t) h = ((term-ends p read).2, rest-small (place_flags ts.terms) p'.map (length (drop (suc i) kinds)) h.map h.count few-behind)
              go (Ok p') (bad x) h = absurd h
              go (Err y) g h = tt

          pub places-read : From at i o to v seen o₂ v₂ (joined p.map a)
          places-read =
              behind-mark o₂ v₂ (joined p.map a)
              (follow (TermTo vocabulary b o to o₁ v₁) (TermsTo vocabulary b o to o₂ v₂ (suc (length (drop (suc i) kinds)))) (below due (seen_at b v seen to) (lexemes_from b e)) more p (joined p.map a) read λ t l h.
              subst (λ (x : Seen). Reads (TermsTo vocabulary b o to o₂ v₂ (suc (length (drop (suc i) kinds)))) (parse_then (parse_places below f comma (drop (suc i) kinds) x l) (λ ts t'. parsed (put_first t.term ts) t')) (joined p.map a)) (sym h.seen)
              (subst (λ (x : List Lexeme). Reads (TermsTo vocabulary b o to o₂ v₂ (suc (length (drop (suc i) kinds)))) (parse_then (parse_places below f comma (drop (suc i) kinds) (seen_at b v₁ p.seen p.to) x) (λ ts t'. parsed (put_first t.term ts) t')) (joined p.map a)) (sym h.behind)
              (go t l h a later-read)))
            where
              go : (t : TermRead) (l : List Lexeme) → TermTo vocabulary b o to o₁ v₁ t l p → (x : Answer) → From p.at (suc i) o₁ p.to v₁ p.seen o₂ v₂ x →
                  Reads (TermsTo vocabulary b o to o₂ v₂ (suc (length (drop (suc i) kinds))))
                  (parse_then (parse_places below f comma (drop (suc i) kinds) (seen_at b v₁ p.seen p.to) (lexemes_from b p.at)) (λ ts t'. parsed (put_first t.term ts) t'))
                  (joined p.map x)
              go t l h (Err y) z = refuse _ _ (parse_places below f comma (drop (suc i) kinds) (seen_at b v₁ p.seen p.to) (lexemes_from b p.at)) (λ ts t'. parsed (put_first t.term ts) t') y z
              go t l h (Ok p') z =
                  follow (TermsTo vocabulary b o₁ p.to o₂ v₂ (length (drop (suc i) kinds))) (TermsTo vocabulary b o to o₂ v₂ (suc (length (drop (suc i) kinds))))
                  (parse_places below f comma (drop (suc i) kinds) (seen_at b v₁ p.seen p.to) (lexemes_from b p.at)) (λ ts t'. parsed (put_first t.term ts) t') p' (joined p.map (Ok p')) z λ ts l' y. record {
                    behind = y.behind;
                    inside = y.inside;
                    room = y.room;
                    few = y.few;
                    seen = y.seen;
                    written = y.written ∙ ap (λ (x : List ℕ). x ++ encode_all vocabulary ts.terms) h.written ∙ append_assoc (take to o) (encode_at vocabulary t.term) (encode_all vocabulary ts.terms);
                    map = omega (arith, h.map, y.map);
                    count = ap suc y.count;
                    lent = y.lent;
                  }

-- ---- the same, where read_places has come to a place

-- The mark before the place stands there, and behind it is the offset e, where a term of kind x is due.
pub record AtPlace (b q r o v : List ℕ) (at n left f i to seen s m e x : ℕ) : Type 0 where
  pub within : Within b at n to seen
  pub lent : Lent o v
  pub tables : Tables q r
  pub known : f < n
  pub here : i < tabled_places r f
  pub start : s ≡ at + blanks (drop at b)
  pub before : m ≡ mark_before i
  pub stands : same (token_at b s) (m ∷ []) ≡ true
  pub end : e ≡ s + token_size (drop s b)
  pub kind : x ≡ get_or r (record_size * f + 2 + i) 0

module _ {b q r o v : List ℕ} {at n left f i to seen s m e x : ℕ} (h : AtPlace b q r o v at n left f i to seen s m e x) where
  pub place_inside : Within b e n to seen
  place_inside = record {
    short = h.within.short;
    inside = end-inside b q r o v at 0 n left f i to seen h.within h.lent h.tables h.known s m h.here h.start h.before e h.stands h.end;
    words = h.within.words;
    room = h.within.room;
    few = h.within.few;
  }

  module _ (o₁ v₁ : List ℕ) where
    told : (a : Answer) → ReadsTerm b e left x q n r o to v seen o₁ v₁ a → (k : ℕ) →
        Reads (TermTo (tabled_vocabulary k n r) b o to o₁ v₁) (parse_term (names_in b (take n q)) (tabled_vocabulary k n r) left (get_or r (record_size * f + 2 + i) 0) (seen_at b v seen to) (lexemes_from b e)) a
    told a read k =
        subst (λ (j : ℕ). Reads (TermTo (tabled_vocabulary k n r) b o to o₁ v₁) (parse_term (names_in b (take n q)) (tabled_vocabulary k n r) left j (seen_at b v seen to) (lexemes_from b e)) a) h.kind (read k)

    pub place-refused : (o₂ v₂ : List ℕ) (z : Fault) → ReadsTerm b e left x q n r o to v seen o₁ v₁ (Err z) → ReadsPlaces b at left f i q n r o to v seen o₂ v₂ (Err z)
    place-refused o₂ v₂ z read k =
        places-bad b q r o v at k n left f i to seen h.within h.lent h.tables h.known s m h.here h.start h.before e h.stands h.end o₁ v₁ o₂ v₂ z (told (Err z) read k)

    module _ (p : Reached) (read : ReadsTerm b e left x q n r o to v seen o₁ v₁ (Ok p)) where
      pub place-ends : Within b p.at n p.to p.seen × Lent o₁ v₁ × (p.map ≤ 1)
      place-ends =
          term-ends b q r o v at 0 n left f i to seen h.within h.lent h.tables h.known s m h.here h.start h.before e h.stands h.end o₁ v₁ p (told (Ok p) read 0)

      module _ (o₂ v₂ : List ℕ) (a : Answer) (behind : ReadsPlaces b p.at left f (i + 1) q n r o₁ p.to v₁ p.seen o₂ v₂ a) where
        pub place-small : Small p.map a
        place-small =
            places-small b q r o v at 0 n left f i to seen h.within h.lent h.tables h.known s m h.here h.start h.before e h.stands h.end o₁ v₁ o₂ v₂ p a (told (Ok p) read 0) (behind 0)

        pub place_read : ReadsPlaces b at left f i q n r o to v seen o₂ v₂ (joined p.map a)
        place_read k =
            places-read b q r o v at k n left f i to seen h.within h.lent h.tables h.known s m h.here h.start h.before e h.stands h.end o₁ v₁ o₂ v₂ p a (told (Ok p) read k) (behind k)
