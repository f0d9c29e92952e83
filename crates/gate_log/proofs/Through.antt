-- A write and its sync.
use Rattle.std.proofs.Common.{◌≡◌, ◌≤◌, ℕ, List, length, ◌∙◌, Some, Result, Ok}
use Rattle.disk_base.specs.Disk.{FileView, Images, IsFile, IsTorn, IsWithin, LeavesExactly, AtEachMoment, Writes, Syncs, overwritten}
use Rattle.disk_base.specs.Moments.{at_start, after_call}
use Rattle.gate_log.specs.GateLog.{IsThrough}
use Rattle.gate_log.proofs.Fetch.{at_some, some_and}
use Rattle.gate_log.proofs.Begin.{on_ok_map}
use Rattle.gate_log.proofs.Torn.{whole_is_torn, images_torn, image_is_torn}

pub through : {T E U F : Type 0} (at : ℕ) (bytes was : List ℕ) (old mid new : FileView) (x : U) (result : Result T E) → at ≤ length was → old.content ≡ Some was → IsFile old
    → Writes {T = U} {E = F} at bytes old mid (Ok x) → Syncs mid new result → IsThrough at bytes was old new result
through at bytes was old mid new x result place told file w s =
    let n = length bytes in
    let P : Images = IsTorn at n was in
    let written : mid.content ≡ Some (overwritten was at bytes) = at_some old.content was (λ b. mid.content ≡ Some (overwritten b at bytes)) told w.written in
    record {
      settled = on_ok_map result _ _ (λ h. (s.same ∙ written, at_some mid.content (overwritten was at bytes) (λ b. LeavesExactly b new.images) written h)) s.settled;
      torn = some_and new.content (overwritten was at bytes) P (s.same ∙ written) (whole_is_torn was at bytes place);
      moments = λ exactly.
          let torn : IsWithin mid.images P = images_torn at n was old.images mid.images exactly w.tears in
          let begun : AtEachMoment old old P = at_start P old (λ c left. image_is_torn at n was old.images exactly c (file.present_alone c left)) in
          after_call P old mid new (after_call P old old mid begun w.call.time torn) s.call.time (λ c left. torn c (s.within c left));
    }
