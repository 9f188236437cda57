-- Blocks: a line an entry, and the other texts that are put together from parts.
--
--   label_some                a label is put where there is one
--   Going                     the lines of the first i entries are put: with those of the others the whole is
--   going_none, going_turn, going-all    how that begins, goes on and ends
--   listed_is, refused_is     the text for list's answer, by its numbers
--   effect_is                 .. and by what list computes
--
use mathlib.Core.Path.{◌≡◌, refl, sym, ap, ap₂, subst, ◌∙◌}
use mathlib.Core.List.{List, ◌++◌}
use Prim.Native.Nat.{ℕ, suc, ◌+◌, ◌-◌, ◌<◌, ◌≤◌}
use native.Mathlib.Omega.{arith}
use lib.ListN.{length, get_or, take, drop}
use Rattle.wire.specs.Reply.{Reply}
use Rattle.wire.specs.Effect.{Effect, HasEffect}
use Rattle.wire.specs.Row.{write_row}
use Rattle.wire.specs.Text.{ascii}
use Rattle.wire.specs.EntryCut.{entry_size, cut_entries}
use Rattle.texts.specs.Lexemes.{token_at}
use Rattle.texts.specs.Saying.{Tables}
use Rattle.texts.specs.Answers.{too_many_text}
use Rattle.texts.specs.Answering.{label_text, leftovers_by, listed_by}
use Rattle.texts.proofs.Scanning.{token_begins}
use Rattle.complement.specs.Answers.{list_numbers}
use Rattle.std.specs.Prelude.{Result}
use Rattle.sizes.specs.declared.Size.{Size}
use Rattle.complement.specs.declared.ListRefusal.{ListRefusal}
use Rattle.numbers.specs.Numbers.{reply_numbers}
use Rattle.numbers.proofs.Said.{list_said, accepted_said, refused_said}
use Rattle.pages.specs.Pages.{Puts}
use Rattle.pages.specs.declared.Page.{Page}
use Rattle.pages.proofs.Pages.{adds-nothing, adds_is, adds_then_is}

pub label_some : (text : List ℕ) (q : ℕ) → q < length text → token_at text q ++ ascii ": " ≡ label_text (token_at text q)
label_some text q h =
    subst (λ u. u ++ ascii ": " ≡ label_text u) (sym (token_begins text q h)) refl

-- ---- the lines

module _ (f : List ℕ → List ℕ) (l : List ℕ) (n : ℕ) (before : Page) where
  pub record Going (i : ℕ) (rest : List ℕ) (now : Page) : Type 0 where
    pub below : i ≤ n
    pub finish : (last : Page) → Puts now last (write_row f (cut_entries (n - i) rest)) → Puts before last (write_row f (cut_entries n l))

  pub going_none : Going 0 l before
  going_none = record {
    below = omega arith;
    finish = λ last h. adds_is (ap (λ m. write_row f (cut_entries m l)) (let e : n - 0 ≡ n = omega arith in e)) h;
  }

module _ {f : List ℕ → List ℕ} {l : List ℕ} {n : ℕ} {before : Page} {i : ℕ} {rest : List ℕ} {now : Page} (h : Going f l n before i rest now) where
  pub going-all : n ≤ i → Puts before now (write_row f (cut_entries n l))
  going-all e =
      h.finish now
      (adds_is (ap (λ k. write_row f (cut_entries k rest)) (let z : 0 ≡ n - i = omega arith in z)) (adds-nothing now.bytes now.end))

  pub going_turn : i < n → {size : ℕ} → size ≡ entry_size rest → {entry behind : List ℕ} → entry ≡ take size rest → behind ≡ drop size rest →
      {next : Page} → Puts now next (f entry) → Going f l n before (i + 1) behind next
  going_turn more {size} sized {entry} {behind} front back put = record {
    below = omega (arith, more);
    finish = λ last a. h.finish last (adds_then_is put a written);
  }
    where
      written : f entry ++ write_row f (cut_entries (n - (i + 1)) behind) ≡ write_row f (cut_entries (n - i) rest)
      written =
          ap₂ (λ (e t : List ℕ). f e ++ write_row f (cut_entries (n - (i + 1)) t)) front back
          ∙ ap (λ k. f (take k rest) ++ write_row f (cut_entries (n - (i + 1)) (drop k rest))) sized
          ∙ ap (λ k. write_row f (cut_entries k rest)) (let m = more in let e : suc (n - (i + 1)) ≡ n - i = omega arith in e)

-- ---- list's answer

module _ (T : Tables) (a : Result Size ListRefusal) (l : List ℕ) {numbers : List ℕ} (said : numbers ≡ reply_numbers (list_numbers a)) where
  pub listed_is : get_or numbers 0 0 ≡ 0 → leftovers_by T (get_or numbers 1 0) l ≡ listed_by T (list_numbers a) l
  listed_is zero = ap (λ r. listed_by T r l) (sym (accepted_said (list_numbers a) said (list_said a) zero))

  pub refused_is : (get_or numbers 0 0 ≡ 0 → ⊥) → too_many_text (get_or numbers 2 0) ≡ listed_by T (list_numbers a) l
  refused_is some = ap (λ r. listed_by T r l) (sym (refused_said (list_numbers a) said (list_said a) some))

pub effect_is : (T : Tables) {e : Effect} {r : Reply} {l : List ℕ} → HasEffect e r l → listed_by T r l ≡ listed_by T e.reply e.after
effect_is T h = ap₂ (listed_by T) h.reply h.after
