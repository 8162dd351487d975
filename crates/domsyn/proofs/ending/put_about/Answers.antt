use Rattle.std.proofs.Common.{◌++◌, List, ℕ, subst}
use Rattle.std.specs.Prelude.{codes}
use Rattle.std.specs.Io.KnownBytes.{Appends}
use Rattle.std.proofs.lemmas.Result.{on_err_weaker}
use Rattle.dom_io.specs.Pieces.{AppendsPrefix}
use Rattle.dom_io.proofs.PieceLemmas.{Appends-then, AppendsPrefix-then, AppendsPrefix-front}
use Rattle.domsyn.proofs.ending.put_about.Goals as goal

pub returns-in-Err-clause-err : goal.returns-in-Err-clause-err
returns-in-Err-clause-err g c = AppendsPrefix-front _ _ (codes "domsyn: " ++ c.args.subject.now) c.args.what.now (AppendsPrefix-front _ _ (codes "domsyn: ") c.args.subject.now c.in-Err.ensures.err)

pub returns-in-Err-put_all-clause-err : goal.returns-in-Err-put_all-clause-err
returns-in-Err-put_all-clause-err g c =
    let P : List ℕ → Type 0 = λ bytes. AppendsPrefix (g.E.Sink.taken c.put_all.new.sink) (g.E.Sink.taken c.put_all-2.new.sink) bytes in
    AppendsPrefix-front _ _ (codes "domsyn: " ++ c.args.subject.now) c.args.what.now
    (AppendsPrefix-then _ _ _ (codes "domsyn: ") c.args.subject.now c.in_default.ensures.ok (subst P c.as_bytes.ensures.value c.in-Err-put_all.ensures.err))

pub returns-clause-err : goal.returns-clause-err
returns-clause-err g c =
    let P : List ℕ → Type 0 = λ bytes. Appends (g.E.Sink.taken c.put_all.new.sink) (g.E.Sink.taken c.put_all-2.new.sink) bytes in
    on_err_weaker c.put_all-3.result
    (λ part. AppendsPrefix-then _ _ _ (codes "domsyn: " ++ c.args.subject.now) c.args.what.now (Appends-then _ _ _ (codes "domsyn: ") c.args.subject.now c.in_default.ensures.ok (subst P c.as_bytes.ensures.value c.in_default-put_all.ensures.ok)) part)
    c.put_all-3.ensures.err
