-- Filling: a buffer that is filled from its front on, read by read.
use Rattle.std.proofs.Common.{◌≡◌, ℕ, ◌+◌, ◌≤◌, List, ◌++◌, length, take, ap, sym, ◌∙◌, length-take-le}
use Rattle.std.proofs.Math.Seq.{take-append-add}
use Rattle.std.proofs.lemmas.List.{take-append-le}
use borrow.Rule.Slice.PartMut.{put_mid, post_of}

-- After a read of n bytes into what is behind the first a bytes, these and the n bytes stand at the front.
pub front_grows : (a k n : ℕ) (buffer read : List ℕ) → a ≤ length buffer → n ≤ length read → take (a + n) (put_mid a k buffer read) ≡ take a buffer ++ take n read
front_grows a k n buffer read within fits =
    let behind = post_of a k buffer in
    let long = length-take-le a buffer within in
    ap (λ m. take (m + n) (put_mid a k buffer read)) (sym long)
    ∙ take-append-add (take a buffer) (read ++ behind) n
    ∙ ap (λ l. take a buffer ++ l) (take-append-le n read behind fits)
