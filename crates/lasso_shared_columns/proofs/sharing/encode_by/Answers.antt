use Rattle.std.proofs.Common.{◌≡◌, ◌++◌, [], List, Bor, map, ap, subst, ◌∙◌, rules}
use Rattle.std.proofs.lemmas.List.{map-append, nil_from_length}
use Rattle.std.proofs.lemmas.Result.{err_from_is_err_and}
use Rattle.std.specs.Slice.Iter.{chunks_rest}
use Rattle.lasso_parts.specs.Texts.{Text}
use Rattle.lasso_log.specs.Views.{list_of, seen}
use Rattle.lasso_shared_columns.proofs.Shared.{CodedSo, coded_none, coded_batch, coded_all, batch_refused}
use Rattle.lasso_shared_columns.proofs.sharing.encode_by.Goals as goal

abbrev now_of : List (Bor Text) → List Text
now_of texts = map (λ t. t.now) texts

pub loop-batch-init : goal.loop-batch-init
loop-batch-init g c = record {
  can = search rules;
  finite = tt;
  of = c.requires;
  coded = coded_none _ _ _ _ (search rules) (search rules);
}

-- a batch is at the front of the texts that are left
parts : (left batch rest : List (Bor Text)) → left ≡ batch ++ rest → now_of left ≡ now_of batch ++ now_of rest
parts left batch rest is = ap now_of is ∙ map-append (λ (t : Bor Text). t.now) batch rest

pub loop-batch-preserved : goal.loop-batch-preserved
loop-batch-preserved g c =
    let o = c.args.rodeo.now.opening in
    let told = c.in_ok-try_get_or_intern_all_as.ensures in
    let steps = c.in-Some.ensures.steps in
    let left = chunks_rest c.loop-batch.batch-iterator in
    let rest = chunks_rest c.next.new.self in
    let batch = c.in-Some.batch.now in
    let all = now_of c.args.texts.now in
    let old = c.loop-batch.pass in
    let new = c.try_get_or_intern_all_as.new.pass in
    let so_far : CodedSo (list_of c.args.rodeo.now old.notes) all (now_of batch ++ now_of rest) c.loop-batch.codes.items = subst (λ (ts : List Text). CodedSo (list_of c.args.rodeo.now old.notes) all ts c.loop-batch.codes.items) (parts left batch rest steps.1.0) c.loop-batch.invariant.coded in
    record {
      can = search rules;
      finite = tt;
      of = told.same.1 ∙ c.loop-batch.invariant.of;
      coded = coded_batch o (seen old) (seen new) old.number all (now_of batch) (now_of rest) c.clear.new.self.items c.try_get_or_intern_all_as.new.keys.items c.loop-batch.codes.items c.add_codes.new.codes.items so_far c.clear.ensures.items told.interned (search rules);
    }

pub returns-in_err-try_get_or_intern_all_as-clause-reason : goal.returns-in_err-try_get_or_intern_all_as-clause-reason
returns-in_err-try_get_or_intern_all_as-clause-reason g c =
    let o = c.args.rodeo.now.opening in
    let steps = c.in-Some.ensures.steps in
    let rest = chunks_rest c.next.new.self in
    let batch = c.in-Some.batch.now in
    let all = now_of c.args.texts.now in
    let old = c.loop-batch.pass in
    let list = list_of c.args.rodeo.now old.notes in
    let so_far : CodedSo list all (now_of batch ++ now_of rest) c.loop-batch.codes.items = subst (λ (ts : List Text). CodedSo list all ts c.loop-batch.codes.items) (parts (chunks_rest c.loop-batch.batch-iterator) batch rest steps.1.0) c.loop-batch.invariant.coded in
    let p = err_from_is_err_and c.from_residual-in_err-try_get_or_intern_all_as.result c.from_residual-in_err-try_get_or_intern_all_as.ensures.1 in
    rw (p.1, p.2) (batch_refused o list (seen old) (seen c.try_get_or_intern_all_as.new.pass) old.number all (now_of batch) (now_of rest) c.loop-batch.codes.items _ _ c.in_err-try_get_or_intern_all_as.field-0.0 so_far c.in_err-try_get_or_intern_all_as.ensures.refused (λ out. out.0))

pub returns-clause-codes : goal.returns-clause-codes
returns-clause-codes g c =
    let rest = chunks_rest c.loop-batch.batch-iterator in
    let none : rest ≡ [] = nil_from_length rest c.in-None.ensures.steps.1.0 in
    coded_all (list_of c.args.rodeo.now c.loop-batch.pass.notes) (now_of c.args.texts.now) (now_of rest) c.loop-batch.codes.items (ap now_of none) c.loop-batch.invariant.coded
