use Rattle.std.proofs.Common.{◌≡◌, ◌∙◌, [], List, ℕ, arith, refl, sym, subst}
use Rattle.std.specs.Vec.Iter.{into_iter_items}
use Rattle.device.specs.Devices.{Device}
use Rattle.disk_model.specs.Memory.{seen_by}
use Rattle.library_core.specs.Library.{Content}
use Rattle.library_core.specs.Memory.{library_content}
use Rattle.nucleus_top.specs.Workloads.{DeviceAfterOne, IsBegunAs}
use Rattle.nucleus_top.proofs.Through.{Goes, goes_more, goes_none, none_left, yielded_all, yielded_more}
use Rattle.nucleus_top.proofs.workload_run.deploy_all.Goals as goal

pub loop-document-init : goal.loop-document-init
loop-document-init c = record {
  none = c.requires.none;
  kept = refl;
  goes = goes_none (library_content c.args.library.now) (seen_by c.args.disk.now);
  all = c.into_iter-document-iterator.ensures.into_iter_gives.0 ∙ c.into_vec-document-items.ensures;
}

pub loop-document-preserved : goal.loop-document-preserved
loop-document-preserved c =
    let content : Content = library_content c.args.library.now in
    record {
      none = c.deploy_one.ensures.none;
      kept = c.deploy_one.ensures.kept ∙ c.loop-document.invariant.kept;
      goes = goes_more content c.loop-document.yielded c.in-Some.document (seen_by c.args.disk.now) (seen_by c.loop-document.disk)
          (seen_by c.deploy_one.new.disk) c.loop-document.invariant.goes
          (λ d begun. subst (λ (x : Content). (e : Device) × IsBegunAs (seen_by c.deploy_one.new.disk) e × DeviceAfterOne x c.in-Some.document d e)
          c.loop-document.invariant.kept (c.deploy_one.ensures.through (sym c.wants_memory.ensures ∙ c.if-wants_memory.false) d begun));
      all = yielded_more c.loop-document.yielded (into_iter_items c.loop-document.document-iterator) (into_iter_items c.next.new.self) c.args.documents
          c.in-Some.document c.in-Some.ensures.steps.0 c.loop-document.invariant.all;
    }

pub returns : goal.returns
returns c =
    let left = into_iter_items c.loop-document.document-iterator in
    let none : left ≡ [] = none_left left (omega (arith, c.in-None.ensures.steps.0)) in
    let whole : c.loop-document.yielded ≡ c.args.documents = yielded_all c.loop-document.yielded left c.args.documents none c.loop-document.invariant.all in
    subst (λ (x : List (List ℕ)). Goes (library_content c.args.library.now) x (seen_by c.args.disk.now) (seen_by c.loop-document.disk)) whole
    c.loop-document.invariant.goes
