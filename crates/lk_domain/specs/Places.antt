-- The entries of one processor in a journal, with their places.
use Rattle.std.specs.Prelude.{◌≡◌, ℕ, ◌+◌, ◌==◌, List, [], ◌∷◌, if◌then◌else◌}
use Rattle.lk_names.specs.declared.ledger.Entry.{Entry}

-- the entries of a worker with their places, counted from n
abbrev pub places_from : ℕ → ℕ → List Entry → List (ℕ × Entry)
places_from n p [] = []
places_from n p (e ∷ es) =
    if e.worker == p then (n, e) ∷ places_from (n + 1) p es else places_from (n + 1) p es

abbrev pub places : ℕ → List Entry → List (ℕ × Entry)
places p es = places_from 0 p es

-- the entries are all of one worker
abbrev pub AllOf : ℕ → List Entry → Type 0
AllOf p [] = Unit {0}
AllOf p (e ∷ es) = (e.worker ≡ p) × AllOf p es
