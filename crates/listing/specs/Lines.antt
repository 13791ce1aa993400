-- The lines about a table, and about a fault.
use Rattle.std.specs.Prelude.{ℕ, ◌+◌, List, [], ◌∷◌, ◌++◌, length, codes, decimal}
use Rattle.table.specs.declared.fault.Fault.{Fault}
use Rattle.table.specs.declared.fault.Place.{Place}
use Rattle.table.specs.declared.fault.Place.TheVariants as places
use Rattle.table.specs.declared.flow.Dimensions.{Dimensions}
use Rattle.table.specs.declared.flow.Flow.{Flow}
use Rattle.table.specs.Content.{Content}

-- a label, and then a router's column and row
abbrev pub router_words : List ℕ → ℕ × ℕ → List ℕ
router_words label r = label ++ decimal r.0 ++ codes " " ++ decimal r.1

-- `torus 3 depth 8 frame 400`
abbrev pub torus_line : Dimensions → List ℕ
torus_line d = codes "torus " ++ decimal d.side ++ codes " depth " ++ decimal d.depth.0 ++ codes " frame " ++ decimal d.frame.0 ++ codes "\n"

-- `flow 1 from 0 1 to 2 1 burst 1 rate 100`
abbrev pub flow_line : ℕ → Flow → List ℕ
flow_line n f =
    codes "flow " ++ decimal n
    ++ codes " from " ++ decimal f.source.0 ++ codes " " ++ decimal f.source.1
    ++ codes " to " ++ decimal f.destination.0 ++ codes " " ++ decimal f.destination.1
    ++ codes " burst " ++ decimal f.burst.0 ++ codes " rate " ++ decimal f.rate.0 ++ codes "\n"

-- the flows' lines, numbered from n
abbrev pub flow_lines : ℕ → List Flow → List ℕ
flow_lines n [] = []
flow_lines n (f ∷ fs) = flow_line n f ++ flow_lines (n + 1) fs

-- `flows 2`
abbrev pub count_line : ℕ → List ℕ
count_line n = codes "flows " ++ decimal n ++ codes "\n"

abbrev pub table_text : Content → List ℕ
table_text c = torus_line c.dimensions ++ flow_lines 1 c.flows ++ count_line (length c.flows)

-- ` byte 0`, ` flow 65`, ` router 1 0` or nothing
abbrev pub place_words : Place → List ℕ
place_words (places.Byte n) = codes " byte " ++ decimal n
place_words (places.Flow n) = codes " flow " ++ decimal n
place_words (places.Router r) = router_words (codes " router ") r
place_words places.Nowhere = []

-- `refused 20 router 1 0`
abbrev pub refused_line : Fault → List ℕ
refused_line f = codes "refused " ++ decimal f.number ++ place_words f.place ++ codes "\n"
