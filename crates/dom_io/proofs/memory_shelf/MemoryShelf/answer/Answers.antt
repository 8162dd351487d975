use Rattle.std.proofs.Common.{ap, inr}
use Rattle.dom_io.specs.Memory.{ShelfData}
use Rattle.dom_io.proofs.memory_shelf.MemoryShelf.answer.Goals as goal

pub returns-in_err-first_bytes-in-Some-clause-absent :
    goal.returns-in_err-first_bytes-in-Some-clause-absent
returns-in_err-first_bytes-in-Some-clause-absent c =
    let same = ap (λ (v : ShelfData). v.files) c.self.view_is in λ none. cc (c.in-Some.ensures.bytes)

pub returns-in_ok-first_bytes-in-Some-clause-absent :
    goal.returns-in_ok-first_bytes-in-Some-clause-absent
returns-in_ok-first_bytes-in-Some-clause-absent c =
    let same = ap (λ (v : ShelfData). v.files) c.self.view_is in λ none. cc (c.in-Some.ensures.bytes)

pub returns-in-None-clause-failed_only : goal.returns-in-None-clause-failed_only
returns-in-None-clause-failed_only c =
    let same = ap (λ (v : ShelfData). v.files) c.self.view_is in λ _. inr (cc (c.in-None.ensures.bytes))
