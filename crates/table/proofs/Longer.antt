-- More bytes behind 1024 alter no answer: every table file is shorter, and every fault lies further in front.
use Rattle.std.proofs.Common.{◌≡◌, ℕ, ◌+◌, ◌<◌, ◌≤◌, List, ◌++◌, length, get_or, Ok, Err, Result, ap, ◌∙◌, append_assoc, arith}
use Rattle.std.proofs.lemmas.List.{length-append, get_or_append_left}
use Rattle.table.specs.declared.fault.Fault.{Fault}
use Rattle.table.specs.declared.model.Table.{Table}
use Rattle.table.specs.declared.record.Kind.{Kind}
use Rattle.table.specs.declared.record.Kind.TheVariants.{Head, Flow, End}
use Rattle.table.specs.Content.{content}
use Rattle.table.specs.Format.{front}
use Rattle.table.specs.Reading.{word_at, body_length, Headed, Whole, Broken, Wrong, Refused, Answers, Settled}
use Rattle.table.specs.Reading.Broken.{headless, undue, missized, cut}
use Rattle.table.specs.Reading.Wrong.{broken, excess, miscount, trailing}
use Rattle.table.specs.Reading.Refused.{at_head, behind}
use Rattle.table.proofs.Prefixes.{length_front}
use Rattle.table.proofs.Places.{length_encode}
use Rattle.table.proofs.Same.{held}

body_short : (k : Kind) → body_length k ≤ 8
body_short Head = omega arith
body_short Flow = omega arith
body_short End = omega arith

module _ (q d : List ℕ) (long : 12 ≤ length q) where
  same_byte : (k : ℕ) → k < 12 → get_or (q ++ d) k 0 ≡ get_or q k 0
  same_byte k h = get_or_append_left q d 0 k (omega arith)

  same_word : (k : ℕ) → k + 1 < 12 → word_at (q ++ d) k ≡ word_at q k
  same_word k h = rw (same_byte k (omega arith), same_byte (k + 1) h)

  longer : length q ≤ length (q ++ d)
  longer = omega (arith, length-append q d)

  headed_more : (at : ℕ) (k : Kind) → Headed at q k → Headed at (q ++ d) k
  headed_more at k h = record { present = omega (arith, longer); kind = rw (same_word 2 (omega arith)) h.kind }

  whole_more : (at : ℕ) (k : Kind) → Whole at q k → Whole at (q ++ d) k
  whole_more at k w = record { header = headed_more at k w.header; size = rw (same_word 0 (omega arith)) w.size; body = omega (arith, longer, w.body) }

  broken_more : (at : ℕ) (f : Fault) → Broken at q f → Broken at (q ++ d) f
  broken_more at f (headless e l) = absurd (omega arith)
  broken_more at f (undue e l n) = undue e (omega (arith, longer)) (rw (same_word 2 (omega arith)) n)
  broken_more at f (missized e k h s) = missized e k (headed_more at k h) (rw (same_word 0 (omega arith)) s)
  broken_more at f (cut e k h s b) = absurd (omega (arith, body_short k))

  wrong_more : (n at : ℕ) (f : Fault) → Wrong n at q f → Wrong n at (q ++ d) f
  wrong_more n at f (broken b) = broken (broken_more at f b)
  wrong_more n at f (excess e w h) = excess e (whole_more at Flow w) h
  wrong_more n at f (miscount e w h) = miscount e (whole_more at End w) (rw (same_word 4 (omega arith)) h)
  wrong_more n at f (trailing e w h l) = trailing e (whole_more at End w) (rw (same_word 4 (omega arith)) h) (omega (arith, longer))

refused_more : (bs d : List ℕ) (f : Fault) → 1024 ≤ length bs → Refused bs f → Refused (bs ++ d) f
refused_more bs d f long (at_head b) = at_head (broken_more bs d (omega arith) 0 f b)
refused_more bs d f long (behind c q few e w) =
    let rest : length bs ≡ length (front c) + length q = ap length e ∙ length-append (front c) q in
    behind c (q ++ d) few (ap (λ l. l ++ d) e ∙ append_assoc (front c) q d)
    (wrong_more q d (omega (arith, length_front c)) (length c.flows) (length (front c)) f w)

pub settled : (bs : List ℕ) (r : Result Table Fault) → Answers bs r → Settled bs r
settled bs (Ok t) a = λ d long. absurd (omega (arith, ap length a, length_encode (content t), held t, t.few))
settled bs (Err f) a = λ d long. refused_more bs d f long a
