-- Where the names of the inner nets of calls lead, while calls are entered and left.
use Rattle.std.proofs.Common.{◌≡◌, ◌<◌, ℕ, List, [], ◌∷◌, ◌++◌, length, sym, ap, ◌∙◌, arith}
use Rattle.subckt_expand.specs.declared.part.LevelName.{LevelName}
use Rattle.subckt_expand.specs.Definitions.{CallData, DefinitionData}
use Rattle.subckt_expand.specs.Frames.{IsWayOut, call_at, name_at}
use Rattle.subckt_expand.proofs.LevelNames.{call_at-more, call_at-push, name_at-more}

-- deeper calls change nothing
pub way_more : (all : List DefinitionData) (main : ℕ) (calls more : List CallData) (level : ℕ) (way : LevelName) → level < length calls
    → IsWayOut all main calls level way → IsWayOut all main (calls ++ more) level way
way_more all main calls more level way lt is = record {
  outer = is.outer;
  same = λ own. (
      ap (λ (c : CallData). name_at all main (calls ++ more) level (c.name ++ 46 ∷ own)) (call_at-more calls more level lt)
      ∙ name_at-more all main calls more level ((call_at calls level).name ++ 46 ∷ own) (omega (arith, lt))
      ∙ is.same own
      ∙ sym (name_at-more all main calls more way.level (way.name ++ 46 ∷ own) (omega (arith, lt, is.outer))));
}

pub way_fewer : (all : List DefinitionData) (main : ℕ) (calls more : List CallData) (level : ℕ) (way : LevelName) → level < length calls
    → IsWayOut all main (calls ++ more) level way → IsWayOut all main calls level way
way_fewer all main calls more level way lt is = record {
  outer = is.outer;
  same = λ own. (
      sym (name_at-more all main calls more level ((call_at calls level).name ++ 46 ∷ own) (omega (arith, lt)))
      ∙ sym (ap (λ (c : CallData). name_at all main (calls ++ more) level (c.name ++ 46 ∷ own)) (call_at-more calls more level lt))
      ∙ is.same own
      ∙ name_at-more all main calls more way.level (way.name ++ 46 ∷ own) (omega (arith, lt, is.outer)));
}

-- the name of the call itself, at the level of its caller
pub way_alone : (all : List DefinitionData) (main : ℕ) (calls : List CallData) (call : CallData) (level : ℕ) (name : List ℕ) → level ≡ length calls → name ≡ call.name
    → IsWayOut all main (calls ++ call ∷ []) (length calls) (record { level = level; name = name })
way_alone all main calls call level name level_is name_is = record {
  outer = omega (arith, level_is);
  same = λ own. (
      ap (λ (c : CallData). name_at all main (calls ++ call ∷ []) (length calls) (c.name ++ 46 ∷ own)) (call_at-push calls call)
      ∙ (λ i. name_at all main (calls ++ call ∷ []) (sym level_is i) (sym name_is i ++ 46 ∷ own)));
}
