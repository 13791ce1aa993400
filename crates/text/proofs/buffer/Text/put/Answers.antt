use Rattle.std.proofs.Common.{◌≡◌, ℕ, ◌+◌, ◌-◌, ◌≤◌, min, List, ◌++◌, length, take, ap, ◌∙◌, arith, length-take, rules}
use borrow.Rule.Slice.PartMut.{put_mid}
use Rattle.std.proofs.lemmas.List.{places, length-take-le}
use Rattle.std.proofs.lemmas.Slice.{take-put_mid}
use Rattle.text.specs.Clipped.{clipped}
use Rattle.text.specs.Said.{said}
use Rattle.text.proofs.Clips.{clipped_part, joins_one}
use Rattle.text.proofs.buffer.Text.put.Goals as goal

-- q, the first n bytes of p, written behind the first m of a text's bytes
written : (bs p q : List ℕ) (k m n : ℕ) → length bs ≡ 8192 → m ≤ 8192 → n ≡ min (length p) (8192 - m) → q ≡ take (n - 0) p → take (m + n) (put_mid m k bs q) ≡ clipped (take m bs ++ p)
written bs p q k m n whole few e copied =
    let full : length (take m bs) ≡ m = length-take-le m bs (omega arith) in
    let some : m + n ≡ m + length q = rw copied (simp length-take (omega arith)) in
    let same : n - 0 ≡ min (8192 - length (take m bs)) (length p) = rw full (omega arith) in
    take-put_mid m k bs q (m + n) some (omega arith)
    ∙ (ap (λ r. take m bs ++ r) (copied ∙ ap (λ j. take j p) same) ∙ clipped_part (take m bs) p (omega arith))

pub invariant_of-self : goal.invariant_of-self
invariant_of-self c =
    let full = length-take-le c.args.self.now.len c.args.self.now.bytes (omega arith) in
    record { whole = search (rules, places); few = omega arith }

pub returns : goal.returns
returns c =
    let t = c.args.self.now in
    let p = c.args.part.now in
    let says = written t.bytes p c.copy_from_slice.new.self _ t.len c.min-n.result t.whole t.few (search rules) c.copy_from_slice.ensures.after in
    record { says = says; joins = joins_one (said t) p _ says }
