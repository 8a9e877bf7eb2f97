-- Values of which each is spelled beside something of those before it.
use Rattle.std.specs.Prelude.{ℕ, zero, suc, List, [], ◌∷◌, ◌++◌, Option, Some, None, ⊤}
use Rattle.ci_front.specs.Front.{Front, ◌>>=◌}

-- The spelling of values one behind the other. That of each may lean on what `next` tells of those before it.
unfoldable pub chained : {C X : Type 0} → (C → X → List ℕ) → (C → X → C) → C → List X → List ℕ
chained spelled next before [] = []
chained spelled next before (x ∷ xs) = spelled before x ++ chained spelled next (next before x) xs

-- what is told behind all of the values
unfoldable pub reached : {C X : Type 0} → (C → X → C) → C → List X → C
reached next before [] = before
reached next before (x ∷ xs) = reached next (next before x) xs

-- each value may follow those before it
unfoldable pub Follow : {C X : Type 0} → (C → X → Type 0) → (C → X → C) → C → List X → Type 0
Follow may next before [] = ⊤
Follow may next before (x ∷ xs) = may before x × Follow may next (next before x) xs

-- so many of them, read
unfoldable pub chain_at : {C X : Type 0} → (C → Front X) → (C → X → C) → C → ℕ → Front (List X)
chain_at at next before zero bytes = Some ([], bytes)
chain_at at next before (suc count) bytes =
    at before bytes >>= λ first. chain_at at next (next before first.0) count first.1 >>= λ others. Some (first.0 ∷ others.0, others.1)

-- all that stand in the bytes, with at most so many of them
unfoldable pub whole_chain : {C X : Type 0} → (C → Front X) → (C → X → C) → C → ℕ → List ℕ → Option (List X)
whole_chain at next before most [] = Some []
whole_chain at next before zero (b ∷ bytes) = None
whole_chain at next before (suc most) (b ∷ bytes) =
    at before (b ∷ bytes) >>= λ first. whole_chain at next (next before first.0) most first.1 >>= λ others. Some (first.0 ∷ others)
