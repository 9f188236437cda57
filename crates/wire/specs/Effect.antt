-- Effect: what is left of a call that is lent a slice.
--
--   Effect               a reply, and what the slice holds after the call
--   HasEffect e r l      the reply r and the slice's content l are those of e
--
use Rattle.std.specs.Prelude.{◌≡◌, List, ℕ}
use Rattle.wire.specs.Reply.{Reply}

pub record Effect : Type 0 where
  pub reply : Reply
  pub after : List ℕ

pub record HasEffect (e : Effect) (r : Reply) (l : List ℕ) : Type 0 where
  pub reply : r ≡ e.reply
  pub after : l ≡ e.after
