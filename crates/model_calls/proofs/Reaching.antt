-- Steps that lead from one thing to another, where each step is a step of another kind.
use Rattle.model_calls.specs.Reaches.{Reaches, more, step}

pub reaches_by : {Thing : Type 0} {Step Other : Thing → Thing → Type 0} → ((a b : Thing) → Step a b → Other a b)
    → {a b : Thing} → Reaches Step a b → Reaches Other a b
reaches_by turned (step {a} {b} s) = step (turned a b s)
reaches_by turned (more {a} {b} {c} s rest) = more (turned a b s) (reaches_by turned rest)
