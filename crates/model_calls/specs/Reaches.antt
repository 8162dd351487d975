-- Steps from one thing to another, as many as there are.

-- one or more steps lead from one thing to another
pub data Reaches {Thing : Type 0} (Step : Thing → Thing → Type 0) : Thing → Thing → Type 0 where
  step : {a b : Thing} → Step a b → Reaches Step a b
  more : {a b c : Thing} → Step a b → Reaches Step b c → Reaches Step a c
