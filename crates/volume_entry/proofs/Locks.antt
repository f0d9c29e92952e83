-- Without a lock nothing is moved or swapped.
use Rattle.std.proofs.Common.{◌≡◌, false, Option, Some, None, refl, ap, subst}
use Rattle.std.specs.Prelude.{is_some}
use Rattle.unit_id.specs.Lists.{IsIn}
use Rattle.volume_entry.specs.Manager.{Transfer, Lock, transfers_of, is_swapped}

pub no_lock : (l : Option Lock) → is_some l ≡ false → l ≡ None
no_lock None h = refl
no_lock (Some l) h = cc

pub no_transfers : (l : Option Lock) → l ≡ None → (t : Transfer) → IsIn t (transfers_of l) → ⊥
no_transfers l e t h = subst (λ o. IsIn t (transfers_of o)) e h

pub unswapped : (l : Option Lock) → l ≡ None → is_swapped l ≡ false
unswapped l e = ap is_swapped e
