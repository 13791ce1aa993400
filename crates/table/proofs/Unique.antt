-- No bytes have two answers.
use Rattle.std.proofs.Common.{◌≡◌, ℕ, ◌+◌, ◌*◌, ◌/◌, ◌%◌, ◌<◌, ◌≤◌, cond, eqb, ltb, List, [], ◌∷◌, ◌++◌, length, Some, None, Ok, Err, Option, Result, sym, refl, ap, ◌∙◌, append_assoc, arith}
use Rattle.std.specs.List.{flat_map}
use Rattle.std.proofs.lemmas.Bool.Decides.{nat_tests as tells}
use Rattle.table.specs.declared.fault.Fault.{Fault}
use Rattle.table.specs.declared.flow.Dimensions.{Dimensions}
use Rattle.table.specs.declared.flow.Flow.{Flow}
use Rattle.table.specs.declared.model.Table.{Table}
use Rattle.table.specs.declared.record.Kind.{Kind}
use Rattle.table.specs.declared.record.Kind.TheVariants as kinds
use Rattle.table.specs.declared.record.Kind.TheVariants.{Head, End}
use Rattle.table.specs.Content.{Content, content}
use Rattle.table.specs.Format.{head_record, flow_record, end_record, front, encode}
use Rattle.table.specs.Reading.{word_at, refusal, due_at, body_length, Whole, Broken, Wrong, Answers}
use Rattle.table.specs.Reading.Broken.{headless, undue, missized, cut}
use Rattle.table.specs.Reading.Wrong.{broken, excess, miscount, trailing}
use Rattle.table.specs.Reading.Refused.{at_head, behind}
use Rattle.table.proofs.Prefixes.{length_front}
use Rattle.table.proofs.Same.{held, same_content}

-- one record: its kind or its fault, computed

sized : ℕ → List ℕ → Option Kind → Result Kind Fault
sized at q None = Err (refusal 2 at)
sized at q (Some k) =
    cond (eqb (word_at q 0) (body_length k)) (cond (ltb (length q) (4 + body_length k)) (Err (refusal 1 at)) (Ok k)) (Err (refusal 3 at))

inspected : ℕ → List ℕ → Result Kind Fault
inspected at q = cond (ltb (length q) 4) (Err (refusal 1 at)) (sized at q (due_at at (word_at q 2)))

broken_is : (at : ℕ) (q : List ℕ) (f : Fault) → Broken at q f → inspected at q ≡ Err f
unfolding inspected sized
broken_is at q f (headless e l) = grind (arith, tells)
broken_is at q f (undue e l n) = grind (arith, tells)
broken_is at q f (missized e k h s) = let p = h.present in let d = h.kind in grind (arith, tells)
broken_is at q f (cut e k h s b) = let p = h.present in let d = h.kind in grind (arith, tells)

whole_is : (at : ℕ) (q : List ℕ) (k : Kind) → Whole at q k → inspected at q ≡ Ok k
unfolding inspected sized
whole_is at q k w =
    let p = w.header.present in
    let d = w.header.kind in
    let s = w.size in
    let b = w.body in grind (arith, tells)

head_whole : (d : Dimensions) (x : List ℕ) → Whole 0 (head_record d ++ x) Head
head_whole d x = record { header = record { present = omega arith; kind = refl }; size = refl; body = omega arith }

flow_whole : (at : ℕ) (f : Flow) (x : List ℕ) → 0 < at → Whole at (flow_record f ++ x) kinds.Flow
flow_whole at f x h = record { header = record { present = omega arith; kind = grind (arith, tells) }; size = refl; body = omega arith }

end_whole : (at n : ℕ) → 0 < at → Whole at (end_record n) End
end_whole at n h = record { header = record { present = omega arith; kind = grind (arith, tells) }; size = refl; body = omega arith }

-- what follows the flows: its fault, if it has one, computed

stop : ℕ → ℕ → List ℕ → Result Kind Fault → Option Fault
stop n at q (Err f) = Some f
stop n at q (Ok Head) = None
stop n at q (Ok kinds.Flow) = cond (eqb n 64) (Some (refusal 4 at)) None
stop n at q (Ok End) = cond (eqb (word_at q 4) n) (cond (ltb 6 (length q)) (Some (refusal 6 (at + 6))) None) (Some (refusal 5 at))

wrong_is : (n at : ℕ) (q : List ℕ) (f : Fault) → Wrong n at q f → stop n at q (inspected at q) ≡ Some f
unfolding stop
wrong_is n at q f (broken b) = ap (stop n at q) (broken_is at q f b)
wrong_is n at q f (excess e w h) = ap (stop n at q) (whole_is at q kinds.Flow w) ∙ grind (arith, tells)
wrong_is n at q f (miscount e w h) = ap (stop n at q) (whole_is at q End w) ∙ grind (arith, tells)
wrong_is n at q f (trailing e w h l) = ap (stop n at q) (whole_is at q End w) ∙ grind (arith, tells)

end_is : (n at : ℕ) → 0 < at → stop n at (end_record n) (inspected at (end_record n)) ≡ None
unfolding stop
end_is n at h =
    let two : n % 256 + 256 * (n / 256) ≡ n = omega arith in
    ap (stop n at (end_record n)) (whole_is at (end_record n) End (end_whole at n h)) ∙ grind (arith, tells)

flow_is : (n at : ℕ) (q : List ℕ) (f : Fault) → stop n at q (inspected at q) ≡ Some f → inspected at q ≡ Ok kinds.Flow → n ≡ 64
unfolding stop
flow_is n at q f e h =
    let s : cond (eqb n 64) (Some (refusal 4 at)) None ≡ Some f = sym (ap (stop n at q) h) ∙ e in grind (arith, tells)

-- records that are the same bytes say the same

two_same : (a b : ℕ) → a % 256 ≡ b % 256 → a / 256 ≡ b / 256 → a ≡ b
two_same a b l h = omega arith

head_same : (d e : Dimensions) (x y : List ℕ) → head_record d ++ x ≡ head_record e ++ y → (d ≡ e) × (x ≡ y)
head_same d e x y h =
    let s : d.side ≡ e.side = cc in
    let p : d.depth.0 ≡ e.depth.0 = cc in
    let q : d.frame.0 ≡ e.frame.0 = two_same d.frame.0 e.frame.0 (cc) (cc) in
    (λ i. record { side = s i; depth = record { 0 = p i }; frame = record { 0 = q i } }, cc)

flow_same : (f g : Flow) (x y : List ℕ) → flow_record f ++ x ≡ flow_record g ++ y → (f ≡ g) × (x ≡ y)
flow_same f g x y h =
    let a : f.source.0 ≡ g.source.0 = cc in
    let b : f.source.1 ≡ g.source.1 = cc in
    let c : f.destination.0 ≡ g.destination.0 = cc in
    let d : f.destination.1 ≡ g.destination.1 = cc in
    let p : f.burst.0 ≡ g.burst.0 = two_same f.burst.0 g.burst.0 (cc) (cc) in
    let r : f.rate.0 ≡ g.rate.0 = two_same f.rate.0 g.rate.0 (cc) (cc) in (
      λ i. record { source = (a i, b i); destination = (c i, d i); burst = record { 0 = p i }; rate = record { 0 = r i } },
      cc,
    )

-- behind n flows, x does not go on with another, or there are m
Last : ℕ → ℕ → List ℕ → Type 0
Last m n x = (f : Flow) (z : List ℕ) → x ≡ flow_record f ++ z → m ≤ n

end_last : (m n k : ℕ) → Last m n (end_record k)
unfolding Last
end_last m n k = λ f z h. absurd (let z : ◌≡◌ {A = ℕ} 0 1 = cc in omega arith)

flows_same : (m : ℕ) (fs gs : List Flow) (x y : List ℕ) (n : ℕ) → n + length fs ≤ m → n + length gs ≤ m → Last m (n + length fs) x → Last m (n + length gs) y → flat_map flow_record fs ++ x ≡ flat_map flow_record gs ++ y → (fs ≡ gs) × (x ≡ y)
unfolding Last
flows_same m [] [] x y n a b l r e = (refl, e)
flows_same m [] (g ∷ gs) x y n a b l r e =
    absurd (omega (arith, l g (flat_map flow_record gs ++ y) (e ∙ append_assoc (flow_record g) (flat_map flow_record gs) y)))
flows_same m (f ∷ fs) [] x y n a b l r e =
    absurd (omega (arith, r f (flat_map flow_record fs ++ x) (sym e ∙ append_assoc (flow_record f) (flat_map flow_record fs) x)))
flows_same m (f ∷ fs) (g ∷ gs) x y n a b l r e =
    let h = flow_same f g (flat_map flow_record fs ++ x) (flat_map flow_record gs ++ y) (sym (append_assoc (flow_record f) (flat_map flow_record fs) x) ∙ (e ∙ append_assoc (flow_record g) (flat_map flow_record gs) y)) in
    let k = flows_same m fs gs x y (n + 1) (omega arith) (omega arith) (λ o z w. omega (arith, l o z w)) (λ o z w. omega (arith, r o z w)) h.1 in
    ((λ i. h.0 i ∷ k.0 i), k.1)

-- an answer, by the content of its table

told : Result Table Fault → Result Content Fault
told (Ok t) = Ok (content t)
told (Err f) = Err f

same_told : (r s : Result Table Fault) → told r ≡ told s → r ≡ s
unfolding told
same_told (Ok t) (Ok u) e = ap Ok (same_content t u (cc))
same_told (Ok t) (Err g) e = absurd (let z : ◌≡◌ {A = ℕ} 0 1 = cc in omega arith)
same_told (Err f) (Ok u) e = absurd (let z : ◌≡◌ {A = ℕ} 0 1 = cc in omega arith)
same_told (Err f) (Err g) e = cc

-- what a table file is to reading: the records that are as they should be, and what follows them

outcome : Content → Option Fault → Result Content Fault
outcome c None = Ok c
outcome c (Some f) = Err f

ending : Content → List ℕ → Option Fault
ending c q = stop (length c.flows) (length (front c)) q (inspected (length (front c)) q)

record Parsed (bs : List ℕ) (r : Result Content Fault) : Type 0 where
  c : Content
  q : List ℕ
  few : length c.flows ≤ 64
  split : bs ≡ head_record c.dimensions ++ (flat_map flow_record c.flows ++ q)
  last : Last 64 (length c.flows) q
  tells : r ≡ outcome c (ending c q)

parsed_same : (bs : List ℕ) (r s : Result Content Fault) → Parsed bs r → Parsed bs s → r ≡ s
unfolding Last
parsed_same bs r s p o =
    let h = head_same p.c.dimensions o.c.dimensions _ _ (sym p.split ∙ o.split) in
    let k = flows_same 64 p.c.flows o.c.flows p.q o.q 0 (omega (arith, p.few)) (omega (arith, o.few)) (λ f z w. omega (arith, p.last f z w)) (λ f z w. omega (arith, o.last f z w)) h.1 in
    let c : p.c ≡ o.c = λ i. record { dimensions = h.0 i; flows = k.0 i } in
    p.tells ∙ ((λ i. outcome (c i) (ending (c i) (k.1 i))) ∙ sym o.tells)

parsed_head : (bs : List ℕ) (r : Result Content Fault) → Parsed bs r → inspected 0 bs ≡ Ok Head
parsed_head bs r p =
    ap (inspected 0) p.split ∙ whole_is 0 _ Head (head_whole p.c.dimensions (flat_map flow_record p.c.flows ++ p.q))

-- a table's own file, and a fault behind the flows of c, are such

good_parsed : (bs : List ℕ) (c : Content) → length c.flows ≤ 64 → bs ≡ encode c → Parsed bs (Ok c)
unfolding Last outcome ending
good_parsed bs c few e =
    let n = length c.flows in
    record {
      c = c;
      q = end_record n;
      few = few;
      split = e ∙ append_assoc (head_record c.dimensions) (flat_map flow_record c.flows) (end_record n);
      last = end_last 64 n n;
      tells = sym (ap (outcome c) (end_is n (length (front c)) (omega (arith, length_front c))));
    }

wrong_parsed : (bs : List ℕ) (f : Fault) (c : Content) (q : List ℕ) → length c.flows ≤ 64 → bs ≡ front c ++ q → Wrong (length c.flows) (length (front c)) q f → Parsed bs (Err f)
unfolding Last outcome ending
wrong_parsed bs f c q few e w =
    let n = length c.flows in
    let at = length (front c) in
    let is = wrong_is n at q f w in
    record {
      c = c;
      q = q;
      few = few;
      split = e ∙ append_assoc (head_record c.dimensions) (flat_map flow_record c.flows) q;
      last = λ g z h. omega (arith, flow_is n at q f is (ap (inspected at) h ∙ whole_is at _ kinds.Flow (flow_whole at g z (omega (arith, length_front c)))));
      tells = sym (ap (outcome c) is);
    }

-- an answer is a fault of the head, or such

data Kept (bs : List ℕ) (r : Result Content Fault) : Type 0 where
  faulty : (f : Fault) → r ≡ Err f → inspected 0 bs ≡ Err f → Kept bs r
  parsed : Parsed bs r → Kept bs r

answered : (bs : List ℕ) (r : Result Table Fault) → Answers bs r → Kept bs (told r)
unfolding told
answered bs (Ok t) a = parsed (good_parsed bs (content t) (omega (arith, held t, t.few)) a)
answered bs (Err f) (at_head b) = faulty f refl (broken_is 0 bs f b)
answered bs (Err f) (behind c q few e w) = parsed (wrong_parsed bs f c q few e w)

kept_same : (bs : List ℕ) (r s : Result Content Fault) → Kept bs r → Kept bs s → r ≡ s
kept_same bs r s (faulty f a x) (faulty g b y) = cc
kept_same bs r s (faulty f a x) (parsed o) = absurd (let h = parsed_head bs s o in let z : ◌≡◌ {A = ℕ} 0 1 = cc in omega arith)
kept_same bs r s (parsed p) (faulty g b y) = absurd (let h = parsed_head bs r p in let z : ◌≡◌ {A = ℕ} 0 1 = cc in omega arith)
kept_same bs r s (parsed p) (parsed o) = parsed_same bs r s p o

pub unique : (bs : List ℕ) (r s : Result Table Fault) → Answers bs r → Answers bs s → r ≡ s
unique bs r s a b = same_told r s (kept_same bs (told r) (told s) (answered bs r a) (answered bs s b))

-- no two tables have one file, of however many flows

pub one_content : (c d : Content) → encode d ≡ encode c → d ≡ c
unfolding Last
one_content c d e =
    let m = length d.flows + length c.flows in
    let split = λ (b : Content). append_assoc (head_record b.dimensions) (flat_map flow_record b.flows) (end_record (length b.flows)) in
    let h = head_same d.dimensions c.dimensions _ _ (sym (split d) ∙ (e ∙ split c)) in
    let k = flows_same m d.flows c.flows _ _ 0 (omega arith) (omega arith) (end_last m _ _) (end_last m _ _) h.1 in
    λ i. record { dimensions = h.0 i; flows = k.0 i }
