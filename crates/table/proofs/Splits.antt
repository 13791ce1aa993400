-- A whole record is what its kind's bytes are, of the numbers that its body says.
use Rattle.std.proofs.Common.{◌≡◌, ℕ, ◌+◌, ◌/◌, ◌%◌, ◌<◌, ◌≤◌, List, ◌∷◌, ◌++◌, length, get_or, drop, Some, ap, ◌∙◌, add_assoc, arith}
use Rattle.std.proofs.lemmas.List.{drop_more, drop_all, get_or-drop}
use Rattle.std.proofs.lemmas.Bool.Decides.{nat_tests}
use Rattle.table.specs.declared.record.Kind.{Kind}
use Rattle.table.specs.declared.record.Kind.TheVariants.{Head, Flow, End}
use Rattle.table.specs.Format.{word, head_record, flow_record, end_record}
use Rattle.table.specs.Reading.{word_at, due_at, Whole}
use Rattle.table.specs.Inspecting.{dimensions_of, flow_of}

-- every element is a byte
abbrev pub Bytes : List ℕ → Type 0
Bytes q = (i : ℕ) → get_or q i 0 < 256

pub drop_bytes : (q : List ℕ) (k : ℕ) → Bytes q → Bytes (drop k q)
drop_bytes q k small i = rw (get_or-drop k q i 0) (small (k + i))

pub first_kind : (n : ℕ) (k : Kind) → due_at 0 n ≡ Some k → k ≡ Head
first_kind n k e = grind (arith, nat_tests)

pub head_kind : (at n : ℕ) → due_at at n ≡ Some Head → (at ≡ 0) × (n ≡ 1)
head_kind at n e = (grind (arith, nat_tests), grind (arith, nat_tests))

pub flow_kind : (at n : ℕ) → due_at at n ≡ Some Flow → n ≡ 2
flow_kind at n e = grind (arith, nat_tests)

pub end_kind : (at n : ℕ) → due_at at n ≡ Some End → n ≡ 3
end_kind at n e = grind (arith, nat_tests)

module _ (q : List ℕ) (small : Bytes q) where
  byte_split : (k : ℕ) → k < length q → drop k q ≡ get_or q k 0 ∷ drop (k + 1) q
  byte_split k h = drop_more q k 0 h

  word_split : (k : ℕ) → k + 2 ≤ length q → drop k q ≡ word (word_at q k) ++ drop (k + 2) q
  word_split k h =
      let low : get_or q k 0 ≡ word_at q k % 256 = omega (arith, small k) in
      let high : get_or q (k + 1) 0 ≡ word_at q k / 256 = omega (arith, small k) in
      let next : drop (k + 1) q ≡ get_or q (k + 1) 0 ∷ drop (k + 2) q = rw (← add_assoc k 1 1) (byte_split (k + 1) (omega arith)) in
      byte_split k (omega arith) ∙ (ap (λ l. get_or q k 0 ∷ l) next ∙ (λ i. low i ∷ high i ∷ drop (k + 2) q))

  pub head_split : (at : ℕ) → Whole at q Head → q ≡ head_record (dimensions_of q) ++ drop 8 q
  head_split at w =
      let kind = (head_kind at (word_at q 2) w.header.kind).1 in
      let size = w.size in
      word_split 0 (omega arith)
      ∙ (rw (size, word_split 2 (omega arith), kind, byte_split 4 (omega arith), byte_split 5 (omega arith), word_split 6 (omega arith)))

  pub flow_split : (at : ℕ) → Whole at q Flow → q ≡ flow_record (flow_of q) ++ drop 12 q
  flow_split at w =
      let kind = flow_kind at (word_at q 2) w.header.kind in
      let size = w.size in
      word_split 0 (omega arith)
      ∙ (rw (size, word_split 2 (omega arith), kind, byte_split 4 (omega arith), byte_split 5 (omega arith), byte_split 6 (omega arith), byte_split 7 (omega arith), word_split 8 (omega arith), word_split 10 (omega arith)))

  pub end_split : (at : ℕ) → Whole at q End → length q ≡ 6 → q ≡ end_record (word_at q 4)
  end_split at w long =
      let kind = end_kind at (word_at q 2) w.header.kind in
      let size = w.size in
      word_split 0 (omega arith)
      ∙ (rw (size, word_split 2 (omega arith), kind, word_split 4 (omega arith), drop_all 6 q (omega arith)))
