-- Putting: pieces are put behind a text, one behind the other.
--
--   put-length, put_then      what is lent stays as long as it was; a piece, and one behind it
--   puts_is                   a piece, and another form of it
--   puts_then                 a piece, and one behind it
--   room_is                   room for a piece, and for another form of it
--   first-room, rest-room     room for two pieces is room for the first, and behind it for the other
--   Printing                  of the whole piece the rest is still to be put
--   printing_none, printing_turn, printing_all       how that begins, goes on and ends
--   printing_next             there is room for the front of the rest
--
use mathlib.Core.Path.{◌≡◌, refl, sym, ap, ap₂, subst, ◌∙◌}
use mathlib.Core.List.{List, [], ◌++◌, append-nil, append_assoc}
use Prim.Native.Nat.{ℕ, ◌+◌, ◌≤◌}
use native.Mathlib.Omega.{arith}
use lib.ListN.{length, take, drop, length-append, length-drop, take-append-drop}
use lib.Seq.{length-take-le, take_at, drop_at, drop-drop}
use Rattle.report.specs.declared.Text.{Text}
use Rattle.report.specs.Putting.{Put}
use Rattle.report.specs.Texts.{HasRoom, Puts}

module _ {x before : List ℕ} {at next : ℕ} {after : List ℕ} (h : Put x before at next after) (room : at + length x ≤ length before) where
  abbrev front : List ℕ
  front = take at before ++ x

  front_length : length front ≡ next
  front_length =
      length-append (take at before) x ∙ omega (arith, length-take-le at before (let r = room in omega arith), h.behind)

  split : after ≡ front ++ drop next before
  split = h.same ∙ sym (append_assoc (take at before) x (drop next before))

  put-length : length after ≡ length before
  put-length =
      ap length split ∙ length-append front (drop next before) ∙ omega (arith, front_length, length-drop next before, h.behind)

  put_then : {y last : List ℕ} {end : ℕ} → Put y after next end last → Put (x ++ y) before at end last
  put_then {y} {last} {end} k = record {
    behind = omega (arith, h.behind, k.behind, length-append x y);
    same =
        k.same
        ∙ ap₂ (λ (l r : List ℕ). l ++ (y ++ r)) (ap (take next) split ∙ take_at front (drop next before) next front_length) rest
        ∙ append_assoc (take at before) x (y ++ drop end before)
        ∙ ap (λ (l : List ℕ). take at before ++ l) (sym (append_assoc x y (drop end before)));
  }
    where
      rest : drop end after ≡ drop end before
      rest =
          ap (λ (n : ℕ). drop n after) k.behind
          ∙ sym (drop-drop (length y) next after)
          ∙ ap (drop (length y)) (ap (drop next) split ∙ drop_at front (drop next before) next front_length)
          ∙ drop-drop (length y) next before
          ∙ ap (λ (n : ℕ). drop n before) (sym k.behind)

-- ---- a piece, and one behind it

pub puts_is : {a b : Text} {x y : List ℕ} → x ≡ y → Puts a b x → Puts a b y
puts_is {a} {b} e h = subst (λ (l : List ℕ). Puts a b l) e h

pub room_is : (a : Text) {x y : List ℕ} → x ≡ y → HasRoom a y → HasRoom a x
room_is a e h = omega (arith, ap length e)

pub first-room : (a : Text) (x y : List ℕ) → HasRoom a (x ++ y) → HasRoom a x
first-room a x y h = omega (arith, length-append x y)

module _ {a b : Text} {x : List ℕ} (h : Puts a b x) where
  same-length : length b.bytes.now ≡ length a.bytes.now
  same-length = put-length h.put h.room

  pub rest-room : (y : List ℕ) → HasRoom a (x ++ y) → HasRoom b y
  rest-room y room = omega (arith, length-append x y, h.put.behind, same-length)

  pub puts_then : {c : Text} {y : List ℕ} → Puts b c y → Puts a c (x ++ y)
  puts_then {c} {y} k = record {
    same_bytes = k.same_bytes ∙ h.same_bytes;
    room = let r = k.room in omega (arith, length-append x y, h.put.behind, same-length);
    put = put_then h.put h.room k.put;
  }

-- ---- a loop that puts a piece

pub record Printing (whole rest : List ℕ) (before now : Text) : Type 0 where
  pub done : List ℕ
  pub all : whole ≡ done ++ rest
  pub room : HasRoom before whole
  pub puts : Puts before now done

pub printing_none : {t : Text} (whole : List ℕ) → HasRoom t whole → Printing whole whole t t
printing_none {t} whole room = record {
  done = [];
  all = refl;
  room = room;
  puts = record {
    same_bytes = refl;
    room = omega arith;
    put = record { behind = omega arith; same = sym (take-append-drop t.end t.bytes.now) };
  };
}

module _ {whole rest : List ℕ} {a b : Text} (h : Printing whole rest a b) where
  pub printing_next : (x rest' : List ℕ) → rest ≡ x ++ rest' → HasRoom b x
  printing_next x rest' e =
      first-room b x rest' (room_is b (sym e) (rest-room h.puts rest (room_is a (sym h.all) h.room)))

  pub printing_turn : {x rest' : List ℕ} {c : Text} → rest ≡ x ++ rest' → Puts b c x → Printing whole rest' a c
  printing_turn {x} {rest'} e p = record {
    done = h.done ++ x;
    all = h.all ∙ ap (λ (l : List ℕ). h.done ++ l) e ∙ sym (append_assoc h.done x rest');
    room = h.room;
    puts = puts_then h.puts p;
  }

  pub printing_all : rest ≡ [] → Puts a b whole
  printing_all e = puts_is (sym (h.all ∙ ap (λ (l : List ℕ). h.done ++ l) e ∙ append-nil h.done)) h.puts
