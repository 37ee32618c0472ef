-- One key more.
use Rattle.std.proofs.Common.{◌≡◌, ◌<◌, [], ◌∷◌, ◌++◌, map, take, arith, ap, sym, ◌∙◌, subst}
use Rattle.std.specs.Prelude.{IfSome, slice_index_or}
use Rattle.pattern_fit.specs.Fits.{element_number, AllWithin}
use Rattle.pattern_fit.proofs.Tables.{within-more, map-more}
use Rattle.pattern_fit.proofs.fitting.elements_of_keys.Goals as goal

pub loop-key-preserved : goal.loop-key-preserved
loop-key-preserved c =
    let l = c.loop-key in
    let more = c.in_ok-push.ensures.items in
    let f = element_number c.args.bounds.now.left c.args.bounds.now.right in
    let keys = c.args.keys.now in
    let here : c.number_in.result ≡ f (slice_index_or keys l.key-index c.key-item.result) = c.number_in.ensures.value ∙ ap f c.key-item.is in
    record {
      value =
          more ∙ ap (λ v. v ++ c.number_in.result ∷ []) l.invariant.value ∙ ap (λ x. map f (take l.key-index keys) ++ x ∷ []) here
          ∙ sym (map-more f keys l.key-index c.key-item.result (omega arith));
      within = subst (AllWithin c.args.count) (sym more) (within-more c.args.count l.numbers.items c.number_in.result l.invariant.within (λ m is. subst (λ r. IfSome r (λ n. n < c.args.count)) is c.number_in.ensures.within));
    }
