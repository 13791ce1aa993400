-- Bytes that begin with the head and the flows of a table.
use Rattle.std.proofs.Common.{◌≡◌, ℕ, ◌+◌, ◌-◌, ◌*◌, ◌<◌, ◌≤◌, List, [], ◌∷◌, ◌++◌, length, drop, Ok, Err, Result, sym, refl, ap, ◌∙◌, subst, append_assoc, arith}
use Rattle.std.specs.List.{flat_map}
use Rattle.std.proofs.lemmas.List.{length-append, length_push, length-drop, flat_map_more, drop-drop, append-nil}
use Rattle.table.specs.declared.flow.Flow.{Flow}
use Rattle.table.specs.declared.model.Table.{Table}
use Rattle.table.specs.declared.record.Kind.{Kind}
use Rattle.table.specs.declared.record.Kind.TheVariants as kinds
use Rattle.table.specs.declared.record.Kind.TheVariants.{Head, End}
use Rattle.table.specs.declared.fault.Fault.{Fault}
use Rattle.table.specs.declared.refusal.Refusal.{Refusal}
use Rattle.table.specs.Content.{Content, content, pushed}
use Rattle.table.specs.Format.{head_record, flow_record, end_record, front, encode}
use Rattle.table.specs.Reading.{word_at, refusal, Whole, Wrong, Refused}
use Rattle.table.specs.Refusals.{fault_of}
use Rattle.table.specs.Inspecting.{Ended, Scanned, dimensions_of, flow_of}
use Rattle.table.specs.Reading.Wrong.{excess}
use Rattle.table.specs.Reading.Refused.{behind}
use Rattle.table.proofs.Splits.{Bytes, drop_bytes, first_kind, head_split, flow_split, end_split}

pub length_flows : (fs : List Flow) → length (flat_map flow_record fs) ≡ 12 * length fs
length_flows [] = refl
length_flows (f ∷ fs) = omega (arith, length-append (flow_record f) (flat_map flow_record fs), length_flows fs)

pub length_front : (c : Content) → length (front c) ≡ 8 + 12 * length c.flows
length_front c = omega (arith, length_flows c.flows)

-- where the record behind the flows of c starts
abbrev pub start_of : Content → ℕ
start_of c = length (front c)

-- the bytes bs begin with c
pub record Begun (bs : List ℕ) (c : Content) : Type 0 where
  pub few : length c.flows ≤ 64
  pub within : start_of c ≤ length bs
  pub split : bs ≡ front c ++ drop (start_of c) bs

pub begun_none : (bs : List ℕ) (k : Kind) → Bytes bs → Whole 0 bs k → Begun bs (record { dimensions = dimensions_of bs; flows = [] })
begun_none bs k small w =
    let head : Whole 0 bs Head = subst (Whole 0 bs) (first_kind (word_at bs 2) k w.header.kind) w in
    record {
      few = omega arith;
      within = head.body;
      split = head_split bs small 0 head ∙ ap (λ l. l ++ drop 8 bs) (sym (append-nil (head_record (dimensions_of bs))));
    }

module _ (bs : List ℕ) (c : Content) (b : Begun bs c) where
  pub begun_wrong : {f : Fault} → Wrong (length c.flows) (start_of c) (drop (start_of c) bs) f → Refused bs f
  begun_wrong w = behind c (drop (start_of c) bs) b.few b.split w

  pub begun_full : 64 ≤ length c.flows → Whole (start_of c) (drop (start_of c) bs) kinds.Flow → Refused bs (refusal 4 (start_of c))
  begun_full full w = begun_wrong (excess refl w (omega (arith, b.few)))

  pub begun_more : Bytes bs → length c.flows < 64 → Whole (start_of c) (drop (start_of c) bs) kinds.Flow → Begun bs (pushed c (flow_of (drop (start_of c) bs)))
  begun_more small room w =
      let q = drop (start_of c) bs in
      let f = flow_of q in
      let one = length_push c.flows f in
      let next : start_of (pushed c f) ≡ start_of c + 12 = omega (arith, length_front c, length_front (pushed c f)) in
      let long : length q ≡ length bs - start_of c = length-drop (start_of c) bs in
      let tail : drop 12 q ≡ drop (start_of (pushed c f)) bs = drop-drop 12 (start_of c) bs ∙ ap (λ n. drop n bs) (sym next) in
      record {
        few = omega arith;
        within = omega (arith, w.body);
        split =
            b.split
            ∙ (ap (λ l. front c ++ l) (flow_split q (drop_bytes bs (start_of c) small) (start_of c) w)
            ∙ (sym (append_assoc (front c) (flow_record f) (drop 12 q))
            ∙ (λ i. flat_map_more flow_record (head_record c.dimensions) c.flows f i ++ tail i)));
      }

  pub begun_end : (t : Table) (r : Result Table Refusal) → content t ≡ c → Bytes bs → Whole (start_of c) (drop (start_of c) bs) End → Ended t (start_of c) (drop (start_of c) bs) r → Scanned bs r
  begun_end t (Ok u) e small w h =
      let q = drop (start_of c) bs in
      let last : q ≡ end_record (length c.flows) = end_split q (drop_bytes bs (start_of c) small) (start_of c) w h.2 ∙ ap end_record (h.1 ∙ ap (λ d. length d.flows) e) in
      b.split ∙ (ap (λ l. front c ++ l) last ∙ ap encode (sym e ∙ ap content (sym h.0)))
  begun_end t (Err f) e small w h = begun_wrong (subst (λ n. Wrong n (start_of c) (drop (start_of c) bs) (fault_of f)) (ap (λ d. length d.flows) e) h)

-- what holds of what is left of bs from byte n on, or behind c, as the code has it

pub at_byte : (P : ℕ → List ℕ → Type 0) (bs : List ℕ) {n at : ℕ} {q : List ℕ} → at ≡ n → q ≡ drop n bs → P at q → P n (drop n bs)
at_byte P bs {n} {at} {q} a b h = subst (P n) b (subst (λ m. P m q) a h)

pub at_start : (P : ℕ → List ℕ → Type 0) (bs : List ℕ) (c : Content) {n at : ℕ} {q : List ℕ} → n ≡ start_of c → at ≡ n → q ≡ drop n bs → P at q → P (start_of c) (drop (start_of c) bs)
at_start P bs c e a b h = subst (λ m. P m (drop m bs)) e (at_byte P bs a b h)
