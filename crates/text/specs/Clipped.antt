-- What a text holds of what was put into it.
use Rattle.std.specs.Prelude.{◌≡◌, ℕ, List, ◌++◌, take}

-- as much of s as a text has room for
abbrev pub clipped : List ℕ → List ℕ
clipped s = take 8192 s

-- where t is s and then a, as far as there is room, u is s and then f a: f puts a piece behind a
abbrev pub Joins : List ℕ → (List ℕ → List ℕ) → List ℕ → Type 0
Joins t f u = (s a : List ℕ) → t ≡ clipped (s ++ a) → u ≡ clipped (s ++ f a)
