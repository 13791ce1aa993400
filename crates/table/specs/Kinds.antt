-- The kinds of records, and their numbers.
use Rattle.std.specs.Prelude.{◌≡◌, ℕ, ◌<◌, ◌⊎◌, Ok, Err, Result}
use Rattle.table.specs.declared.record.Kind.{Kind}
use Rattle.table.specs.declared.record.Kind.TheVariants.{Head, Flow, End}
use Rattle.table.specs.declared.record.UnknownKind.{UnknownKind}

abbrev pub number_of : Kind → ℕ
number_of Head = 1
number_of Flow = 2
number_of End = 3

-- the kind of this number, or the number, which no kind has
abbrev pub Names : ℕ → Result Kind UnknownKind → Type 0
Names n (Ok k) = n ≡ number_of k
Names n (Err e) = (e.0 ≡ n) × ((n ≡ 0) ⊎ (3 < n))
