-- The laws of paths in a domino cell.
use Rattle.sp_network.specs.Known.{is_one, is_not_zero}
use Rattle.domino_cell.specs.Laws.{JoinsFootThroughTreeAlone, JoinsFootWhereOne, JoinsGroundThroughTreeAlone, MayJoinFootWhereNotZero, MayPullDownWhereNotZero, PullsDownWhereOne}
use Rattle.domino_cell.proofs.Cells.{joins_foot, pulls_down, reaches_foot, reaches_ground}
use Rattle.sp_network.proofs.TreeTests.{IsTest-is_not_zero, IsTest-is_one, is_not_zero-from, is_not_zero-true, is_one-from, is_one-true}
use Rattle.domino_cell.proofs.Paths.{Reach-from_any, Reach-from_definite, Reach-from_possible, definite_from_Reach, possible_from_Reach}

pub pulls_down_where_one : PullsDownWhereOne
pulls_down_where_one style devices is_source values nets tree is =
    let h = pulls_down style devices is_source nets tree is values is_one IsTest-is_one in (
      (λ p. let k = h.0 (Reach-from_definite devices is_source values nets.dynamic nets.vss p) in (is_one-true _ k.0, is_one-true _ k.1)),
      (λ k. definite_from_Reach devices is_source values nets.dynamic nets.vss (h.1 (is_one-from _ k.0, is_one-from _ k.1))),
    )

pub may_pull_down_where_not_zero : MayPullDownWhereNotZero
may_pull_down_where_not_zero style devices is_source values nets tree is =
    let h = pulls_down style devices is_source nets tree is values is_not_zero IsTest-is_not_zero in (
      (λ p. let k = h.0 (Reach-from_possible devices is_source values nets.dynamic nets.vss p) in (is_not_zero-true _ k.0, is_not_zero-true _ k.1)),
      (λ k. possible_from_Reach devices is_source values nets.dynamic nets.vss (h.1 (is_not_zero-from _ k.0, is_not_zero-from _ k.1))),
    )

pub joins_ground_through_tree_alone : JoinsGroundThroughTreeAlone
joins_ground_through_tree_alone style devices is_source values nets tree is p =
    let k = reaches_ground style devices is_source nets tree is values is_not_zero IsTest-is_not_zero (Reach-from_any devices is_source values nets.dynamic nets.vss p) in
    (is_not_zero-true _ k.0, is_not_zero-true _ k.1)

pub joins_foot_where_one : JoinsFootWhereOne
joins_foot_where_one style devices is_source values nets tree is =
    let h = joins_foot style devices is_source nets tree is values is_one IsTest-is_one in (
      (λ p. is_one-true _ (h.0 (Reach-from_definite devices is_source values nets.dynamic nets.foot p))),
      (λ k. definite_from_Reach devices is_source values nets.dynamic nets.foot (h.1 (is_one-from _ k))),
    )

pub may_join_foot_where_not_zero : MayJoinFootWhereNotZero
may_join_foot_where_not_zero style devices is_source values nets tree is =
    let h = joins_foot style devices is_source nets tree is values is_not_zero IsTest-is_not_zero in (
      (λ p. is_not_zero-true _ (h.0 (Reach-from_possible devices is_source values nets.dynamic nets.foot p))),
      (λ k. possible_from_Reach devices is_source values nets.dynamic nets.foot (h.1 (is_not_zero-from _ k))),
    )

pub joins_foot_through_tree_alone : JoinsFootThroughTreeAlone
joins_foot_through_tree_alone style devices is_source values nets tree is p =
    is_not_zero-true _ (reaches_foot style devices is_source nets tree is values is_not_zero IsTest-is_not_zero (Reach-from_any devices is_source values nets.dynamic nets.foot p))
