-- The words of the first keys come before those of the second ones.
use Rattle.std.proofs.Common.{◌++◌, List, ap, ◌∙◌, sym, subst}
use Rattle.std.proofs.lemmas.Result.{err_from_is_err_and}
use Rattle.lasso.specs.History.{totals}
use Rattle.lasso_guide.specs.WordKeys.{IsRefusalOf, Resolve}
use Rattle.lasso_guide.proofs.Counting.{err_at, ok_at, refused_first, refused_second, resolve_join}
use Rattle.lasso_guide.proofs.word_counts.joined.Goals as goal

pub returns-in_err-keys : goal.returns-in_err-keys
returns-in_err-keys g c opening past front back one two =
    let number = g.K.Key.number in
    let key_at = g.K.Key.key_at in
    let list = (totals opening past).texts in
    let p = err_from_is_err_and c.from_residual.result c.from_residual.ensures.1 in
    let why = err_at (λ keys. Resolve number list keys.items front) (λ error. IsRefusalOf number key_at opening past front error) c.args.first c.in_err-keys.field-0.0 one c.in_err-keys.was in
    rw (p.1, p.2) (refused_first number key_at opening past front back c.in_err-keys.field-0.0 why)

pub returns-in_err-more : goal.returns-in_err-more
returns-in_err-more g c opening past front back one two =
    let number = g.K.Key.number in
    let key_at = g.K.Key.key_at in
    let list = (totals opening past).texts in
    let p = err_from_is_err_and c.from_residual-in_err-more.result c.from_residual-in_err-more.ensures.1 in
    let stand = ok_at (λ keys. Resolve number list keys.items front) (λ error. IsRefusalOf number key_at opening past front error) c.args.first c.in_ok-keys.keys one c.in_ok-keys.was in
    let why = err_at (λ keys. Resolve number list keys.items back) (λ error. IsRefusalOf number key_at opening past back error) c.args.second c.in_err-more.field-0.0 two c.in_err-more.was in
    rw (p.1, p.2) (refused_second number key_at opening past front back c.in_ok-keys.keys.items c.in_err-more.field-0.0 stand why)

pub returns : goal.returns
returns g c opening past front back one two =
    let number = g.K.Key.number in
    let key_at = g.K.Key.key_at in
    let list = (totals opening past).texts in
    let stand = ok_at (λ keys. Resolve number list keys.items front) (λ error. IsRefusalOf number key_at opening past front error) c.args.first c.in_ok-keys.keys one c.in_ok-keys.was in
    let more = ok_at (λ keys. Resolve number list keys.items back) (λ error. IsRefusalOf number key_at opening past back error) c.args.second c.in_ok-more.more two c.in_ok-more.was in
    let put = c.in_ok-extend_from_slice.ensures.items ∙ ap (λ ks. c.in_ok-keys.keys.items ++ ks) c.deref.ensures.value in
    subst (λ ks. Resolve number list ks (front ++ back)) (sym put) (resolve_join number list c.in_ok-keys.keys.items c.in_ok-more.more.items front back stand more)
