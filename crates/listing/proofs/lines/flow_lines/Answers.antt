use Rattle.std.proofs.Common.{◌≡◌, ℕ, ◌+◌, List, [], ◌∷◌, ◌++◌, length, get_or, take, sym, ap, ◌∙◌, append_assoc, append-nil, arith, below_more}
use Rattle.std.proofs.lemmas.List.{take_more, length-take-le}
use Rattle.table.specs.declared.flow.Flow.{Flow}
use Rattle.table.specs.Blank.{blank}
use Rattle.text.proofs.Clips.{joins_one, joins_more}
use Rattle.listing.specs.Lines.{flow_line, flow_lines}
use Rattle.listing.proofs.lines.flow_lines.Goals as goal

-- the line of one flow more
flow_lines_more : (n m : ℕ) (fs : List Flow) (f : Flow) → n + length fs ≡ m → flow_lines n (fs ++ f ∷ []) ≡ flow_lines n fs ++ flow_line m f
flow_lines_more n m [] f h = let same : n ≡ m = omega arith in rw same (append-nil (flow_line m f))
flow_lines_more n m (g ∷ fs) f h = ap (λ l. flow_line n g ++ l) (flow_lines_more (n + 1) m fs f (omega arith)) ∙ sym (append_assoc (flow_line n g) (flow_lines (n + 1) fs) (flow_line m f))

pub loop-i-preserved : goal.loop-i-preserved
loop-i-preserved c =
    let i = c.loop-i.i in
    let fs = c.args.flows.now in
    let full = length-take-le i fs (omega arith) in
    let more = ap (flow_lines 1) (take_more fs i blank (omega arith)) ∙ flow_lines_more 1 (i + 1) (take i fs) (get_or fs i blank) (omega arith) in (
      rw more (joins_more _ _ _ _ _ c.loop-i.invariant.0 (joins_one _ _ _ c.flow_line.ensures.says)),
      below_more _ i c.loop-i.invariant.1 c.flow_line.ensures.small,
    )
