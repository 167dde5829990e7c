-- A keyword lies where it is for ever, so as long as the era. It goes last as it is, and takes nothing of the bucket.
use Rattle.std.proofs.Common.{ap, refl, ◌∙◌}
use mathlib.Core.List.{ne-nil_of_mem}
use Rattle.lasso_log.specs.LentBuckets.{LentBucket}
use Rattle.lasso_shared.proofs.Copied.{texts_more}
use Rattle.lasso_shared.proofs.shards.Shards.of_keywords.Goals as goal

pub push-requires : goal.push-requires
push-requires g c = λ a mem. absurd (ne-nil_of_mem mem c.from_static.ensures.until)

pub loop-keyword-preserved : goal.loop-keyword-preserved
loop-keyword-preserved g c =
    let i = c.loop-keyword.invariant in
    let put = c.in_ok-push.ensures in record {
      texts = texts_more (λ t. t.now) c.args.keywords.now _ c.loop-keyword.keyword-index c.loop-keyword-test.true c.loop-keyword.opening.texts c.loop-keyword.opening.texts c.push.new.self.texts c.from_static.result.text i.texts refl c.from_static.ensures.text put.texts;
      used = ap (λ (b : LentBucket). b.used) put.bucket ∙ i.used;
      size = ap (λ (b : LentBucket). b.size) put.bucket ∙ i.size;
    }
