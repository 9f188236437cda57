-- `pheasantry::pheasantry_part` meets its contract.
use Prim.Native.Nat.{ℕ, ◌<◌}
use mathlib.Core.List.{List}
use native.Mathlib.Omega.{arith}
use Rattle.wire.specs.VocabularyLines.{byte_at}
use Rattle.wire.proofs.Bytes.{bytes_of}
use Rattle.matcher.proofs.Calls.{Lent}
use Rattle.pheasantry.proofs.Parts.{part-above, part-matched}
use Rattle.pheasantry.proofs.pheasantry_part.Goals as goal

-- Slices of bytes are lent bytes.
lent : (v p s : List ℕ) → ((i : ℕ) → byte_at v i < 256) → ((i : ℕ) → byte_at p i < 256) → ((i : ℕ) → byte_at s i < 256) → Lent v p s
lent v p s vocabulary pattern situation = record {
  vocabulary = bytes_of v vocabulary;
  pattern = bytes_of p pattern;
  situation = bytes_of s situation;
}

pub returns-then-name-gt63-clause-part_replied : goal.returns-then-name-gt63-clause-part_replied
returns-then-name-gt63-clause-part_replied c =
    (part-above (
    lent c.args.vocabulary.now c.args.pattern.now c.args.situation.now
    (λ i. (c.type_inv.vocabulary i).fits) (λ i. (c.type_inv.pattern i).fits) (λ i. (c.type_inv.situation i).fits)
    ) c.args.name c.if-name-gt63.true c.accepted.ensures).0

pub returns-clause-part_replied : goal.returns-clause-part_replied
returns-clause-part_replied c =
    (part-matched (
    lent c.args.vocabulary.now c.args.pattern.now c.args.situation.now
    (λ i. (c.type_inv.vocabulary i).fits) (λ i. (c.type_inv.pattern i).fits) (λ i. (c.type_inv.situation i).fits)
    ) c.args.name (let low = c.if-name-gt63.false in omega arith)
    c.match_pattern.ensures.has_effect.after c.from-offset.ensures c.from-length.ensures c.accepted-2.ensures).0

pub returns-clause-reply_after : goal.returns-clause-reply_after
returns-clause-reply_after c =
    (part-matched (
    lent c.args.vocabulary.now c.args.pattern.now c.args.situation.now
    (λ i. (c.type_inv.vocabulary i).fits) (λ i. (c.type_inv.pattern i).fits) (λ i. (c.type_inv.situation i).fits)
    ) c.args.name (let low = c.if-name-gt63.false in omega arith)
    c.match_pattern.ensures.has_effect.after c.from-offset.ensures c.from-length.ensures c.accepted-2.ensures).1
