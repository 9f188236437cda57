-- Words: a word of the pattern, and what the entry has there: the same word, or nothing.
--
--   Shape, shape          a term that is no open place and begins with a byte below 128 is a word
--   both_open, both-name  where the pattern has no word, both allow what the entry has
--   Word, word_of         the word of the pattern, with the entry's terms at its places
--
use mathlib.Core.Path.{◌≡◌, refl, sym, ap, subst}
use mathlib.Core.Bool.{Bool, true, false, not, true≢false, false≢true}
use mathlib.Core.List.{List, [], ◌∷◌, ◌++◌}
use Prim.Native.Nat.{ℕ, ◌<◌, ◌≤◌}
use native.Mathlib.Omega.{arith}
use lib.Dec.{eqb}
use lib.ListN.{length, get_or}
use borrow.Author.Tests.{eqb-true}
use Rattle.terms.specs.Term.{Term, any, var, app, Terms, nil, cons, Sorted, SortedAll, names, names_all}
use Rattle.terms.specs.Listing.{open_every}
use Rattle.terms.specs.Book.{nameless, nameless_all, disjoint_all, both, both_all}
use Rattle.terms.proofs.Bools.{or_parts}
use Rattle.wire.specs.Map.{write_map, flags, is_open}
use Rattle.wire.specs.Vocabulary.{Vocabulary, InOrder, signature, word, map_of}
use Rattle.wire.specs.TermBytes.{written_map, encode_at, encode_all}
use Rattle.wire.specs.EntryAgainst.{places_of_word, cut_at, cut_all_at}
use Rattle.wire.proofs.Words.{length_symbols, arguments-word, word-in_order}
use Rattle.wire.proofs.Entries.{open_every-bytes}
use Rattle.wire.proofs.EntryMaps.{written-empty}
use Rattle.cuts.specs.Own.{own}
use Rattle.cuts.specs.Cutting.{Pair, Pairs}
use Rattle.cuts.proofs.Pairs.{pairs-from}

-- ---- where the pattern has no word

pub both_open : (e : Term) → names e ≡ [] → both e any ≡ e
both_open any h = refl
both_open (var n) h = absurd (omega (arith, ap length h))
both_open (app f es) h = refl

pub both-name : (e : Term) (n : ℕ) → names e ≡ [] → both e (var n) ≡ e
both-name any n h = refl
both-name (var m) n h = absurd (omega (arith, ap length h))
both-name (app f es) n h = refl

-- ---- the places of an open entry

open_sorted : (W : Vocabulary) (ps : Terms) (ks : List ℕ) → SortedAll (signature W) ps ks → SortedAll (signature W) (open_every ps) ks
open_sorted W nil ks h = h
open_sorted W (cons p ps) [] h = h
open_sorted W (cons p ps) (k ∷ ks) h = (tt, open_sorted W ps ks h.1)

open_shares : (ps : Terms) → disjoint_all (open_every ps) ps ≡ false
open_shares nil = refl
open_shares (cons p ps) = open_shares ps

open_nameless : (ps : Terms) → names_all (open_every ps) ≡ []
open_nameless nil = refl
open_nameless (cons p ps) = open_nameless ps

open_both : (ps : Terms) → both_all (open_every ps) ps ≡ nameless_all ps
open_both nil = refl
open_both (cons p ps) = ap (cons (nameless p)) (open_both ps)

-- ---- a word of the pattern

-- The entry has the terms es at its places, and the bytes head before them.
pub record Word (W : Vocabulary) (e p : Term) : Type 0 where
  pub f : ℕ
  pub es : Terms
  pub ps : Terms
  pub head : List ℕ
  pub same : p ≡ app f ps
  pub known : f < length W.words
  pub pairs : Pairs W (flags (map_of W f)) es ps
  pub opened : is_open e ≡ true → (head ≡ []) × (written_map W f es ≡ 0)
  pub closed : is_open e ≡ false → head ≡ f ∷ write_map (written_map W f es)
  pub mine : encode_at W e ≡ head ++ encode_all W es
  pub bytes : encode_at W (both e p) ≡ f ∷ (write_map (written_map W f (both_all es ps)) ++ encode_all W (both_all es ps))
  pub cuts : (front tail : List ℕ) →
      cut_at W p e front tail ≡ own (is_open e) W f front (encode_at W e ++ tail) ++ cut_all_at W ps es f (places_of_word W f) 0 [] front tail

module _ (W : Vocabulary) (in_order : InOrder W) where
  known-word : (f : ℕ) (ps : Terms) (s : ℕ) → Sorted (signature W) (app f ps) s → f < length W.words
  known-word f ps s h = omega (arith, h.0, length_symbols W)

  pairs-at : (f : ℕ) (es ps : Terms) (s : ℕ) → Sorted (signature W) (app f ps) s → SortedAll (signature W) es (word W f).kinds →
      disjoint_all es ps ≡ false → names_all es ≡ [] → Pairs W (flags (map_of W f)) es ps
  pairs-at f es ps s h k d o =
      pairs-from W (flags (map_of W f)) es ps (word W f).kinds (word-in_order W f in_order (known-word f ps s h)).count k
      (subst (SortedAll (signature W) ps) (arguments-word W f) h.2) d o

  open_word : (f : ℕ) (ps : Terms) → Pair W any (app f ps) → Word W any (app f ps)
  open_word f ps h = record {
    f = f;
    es = open_every ps;
    ps = ps;
    head = [];
    same = refl;
    known = known-word f ps h.kind h.pattern;
    pairs =
        pairs-at f (open_every ps) ps h.kind h.pattern
        (open_sorted W ps (word W f).kinds (subst (SortedAll (signature W) ps) (arguments-word W f) h.pattern.2)) (open_shares ps) (open_nameless ps);
    opened = λ e. (refl, written-empty (flags (map_of W f)) ps);
    closed = λ e. absurd (true≢false e);
    mine = sym (open_every-bytes W ps);
    bytes = ap (λ ts. encode_at W (app f ts)) (sym (open_both ps));
    cuts = λ front tail. refl;
  }

  same_word : (f g : ℕ) (es ps : Terms) → Pair W (app f es) (app g ps) → Word W (app f es) (app g ps)
  same_word f g es ps h =
      let parts = or_parts (not (eqb f g)) (disjoint_all es ps) h.shares in
      let one : f ≡ g = go (eqb f g) refl parts.0 in
      subst (λ g. Word W (app f es) (app g ps)) one (record {
        f = f;
        es = es;
        ps = ps;
        head = f ∷ write_map (written_map W f es);
        same = refl;
        known = known-word f es h.kind h.entry;
        pairs =
            pairs-at f es ps h.kind (subst (λ g. Sorted (signature W) (app g ps) h.kind) (sym one) h.pattern)
            (subst (SortedAll (signature W) es) (arguments-word W f) h.entry.2) parts.1 h.nameless;
        opened = λ e. absurd (false≢true e);
        closed = λ e. refl;
        mine = refl;
        bytes = refl;
        cuts = λ front tail. refl;
      })
    where
      go : (b : Bool) → eqb f g ≡ b → not b ≡ false → f ≡ g
      go true e n = eqb-true f g e
      go false e n = absurd (true≢false n)

  pub word_of : (e p : Term) (r : List ℕ) → Pair W e p → is_open p ≡ false → get_or (encode_at W p ++ r) 0 0 ≤ 127 → Word W e p
  word_of e any r h c k = absurd (true≢false c)
  word_of e (var n) r h c k = absurd (omega arith)
  word_of any (app g ps) r h c k = open_word g ps h
  word_of (var n) (app g ps) r h c k = absurd (omega (arith, ap length h.nameless))
  word_of (app f es) (app g ps) r h c k = same_word f g es ps h
