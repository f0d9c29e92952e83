-- The units that legal records leave are on disks of the volume, and few of them move.
use Rattle.std.proofs.Common.{◌≡◌, sym, ap, refl, subst, ℕ, suc, ◌+◌, ◌≤◌, Bool, true, false, cond, List, [], ◌∷◌, length, Option, None, Some, inl, inr, arith}
use Rattle.std.specs.Prelude.{◌==◌}
use Rattle.unit_id.specs.Lists.{IsIn}
use Rattle.unit_id.specs.Place.{Location}
use Rattle.code_mode.specs.Mode.{put_quorum, data_count}
use Rattle.code_mode.specs.VolumeShape.{VolumeShape}
use Rattle.code_mode.specs.declared.mode.Mode.{Mode}
use Rattle.code_mode.specs.declared.mode.Mode.TheVariants.{Ec3P3, Ec6P3, Ec6P6, Ec10P4, Ec12P4, Ec12P9, Ec16P4, Ec15P12}
use Rattle.volume_entry.specs.Manager.{Transfer, Lock, Grant, ManagerRecord, Manager, AreFirstHomes, IsDisk, IsLegal, IsNextHome, home_at, transfers_of, transfers_to, moved_one, moved, redirected, redirected_lock, swapped_lock, fresh_manager, written}
use Rattle.volume_entry.specs.FirstHomes.{AreFresh}
use Rattle.volume_entry.specs.TableParts.{shape_of}
use Rattle.volume_entry.specs.Book.{AreOnDisks, IsMoveWithin, AreMovesWithin, IsPlaced}
use Rattle.volume_entry.specs.declared.shape.Shape.{Shape}
use Rattle.volume_entry.proofs.FirstHomes.{are_fresh}
use Rattle.volume_entry.proofs.NamedUnits.{home_in}

-- ---- counts

pub length-transfers : (grants : List Grant) (homes : List Location) → length (transfers_to grants homes) ≡ length grants
length-transfers [] homes = refl
length-transfers (t ∷ ts) homes = ap suc (length-transfers ts homes)

pub length-redirected : (grant : Grant) (ts : List Transfer) → length (redirected grant ts) ≡ length ts
length-redirected grant [] = refl
length-redirected grant (t ∷ ts) = ap suc (length-redirected grant ts)

-- as many as a volume can lose
abbrev IsMost : VolumeShape → ℕ → Type 0
IsMost shape count = count + shape.data_count ≤ shape.quorum

redirected_most : (shape : VolumeShape) (grant : Grant) (lock : Option Lock) → IsMost shape (length (transfers_of lock)) → IsMost shape (length (transfers_of (redirected_lock grant lock)))
redirected_most shape grant None most = most
redirected_most shape grant (Some lock) most = subst (IsMost shape) (sym (length-redirected grant lock.transfers)) most

swapped_most : (shape : VolumeShape) (lock : Option Lock) → IsMost shape (length (transfers_of lock)) → IsMost shape (length (transfers_of (swapped_lock lock)))
swapped_most shape None most = most
swapped_most shape (Some lock) most = most

data_below : (mode : Mode) → data_count mode ≤ put_quorum mode
data_below Ec3P3 = omega arith
data_below Ec6P3 = omega arith
data_below Ec6P6 = omega arith
data_below Ec10P4 = omega arith
data_below Ec12P4 = omega arith
data_below Ec12P9 = omega arith
data_below Ec16P4 = omega arith
data_below Ec15P12 = omega arith

-- nothing moves
none_most : (shape : Shape) → IsMost (shape_of shape) 0
none_most shape = let h : data_count shape.mode ≤ put_quorum shape.mode = data_below shape.mode in omega (arith, h)

module _ (shape : VolumeShape) where
  -- ---- first homes

  fresh_placed : (homes : List Location) → AreFresh shape homes → AreOnDisks shape homes
  fresh_placed [] f home i = absurd i
  fresh_placed (x ∷ xs) f home (inl e) = subst (λ (h : Location). IsDisk shape h.disk) (sym e) f.0.disk
  fresh_placed (x ∷ xs) f home (inr i) = fresh_placed xs f.1 home i

  -- ---- a lock

  module _ (homes : List Location) (greatest : List ℕ) (count : length homes ≡ shape.total) (placed : AreOnDisks shape homes) where
    granted_moves : (grants : List Grant) → ((t : Grant) → IsIn t grants → IsNextHome shape homes greatest t) → AreMovesWithin shape (transfers_to grants homes)
    granted_moves [] each t i = absurd i
    granted_moves (g ∷ gs) each t (inl e) =
        let next = each g (inl refl) in
        let below = next.index in
        subst (IsMoveWithin shape) (sym e) (record { index = below; old = placed (home_at homes g.index) (home_in homes g.index (omega (arith, below, count))); dest = next.disk })
    granted_moves (g ∷ gs) each t (inr i) = granted_moves gs (λ u j. each u (inr j)) t i

  -- ---- a new destination

  redirected_moves : (grant : Grant) (ts : List Transfer) → IsDisk shape grant.dest.disk → AreMovesWithin shape ts → AreMovesWithin shape (redirected grant ts)
  redirected_moves grant [] new moves t i = absurd i
  redirected_moves grant (x ∷ xs) new moves t (inl e) =
      subst (IsMoveWithin shape) (sym e) (record { index = (moves x (inl refl)).index; old = (moves x (inl refl)).old; dest = dest (x.index == grant.index) }) where
        dest : (test : Bool) → IsDisk shape (cond test grant.dest x.dest).disk
        dest true = new
        dest false = (moves x (inl refl)).dest
  redirected_moves grant (x ∷ xs) new moves t (inr i) = redirected_moves grant xs new (λ u j. moves u (inr j)) t i

  lock_redirected_moves : (grant : Grant) (lock : Option Lock) → IsDisk shape grant.dest.disk → AreMovesWithin shape (transfers_of lock) → AreMovesWithin shape (transfers_of (redirected_lock grant lock))
  lock_redirected_moves grant None new moves = moves
  lock_redirected_moves grant (Some lock) new moves = redirected_moves grant lock.transfers new moves

  -- ---- a swap

  moved_one_placed : (ts : List Transfer) (i : ℕ) (home : Location) → AreMovesWithin shape ts → IsDisk shape home.disk → IsDisk shape (moved_one ts i home).disk
  moved_one_placed [] i home moves h = h
  moved_one_placed (t ∷ ts) i home moves h = go (t.index == i) (moved_one_placed ts i home (λ u j. moves u (inr j)) h) where
    go : (test : Bool) → IsDisk shape (moved_one ts i home).disk → IsDisk shape (cond test t.dest (moved_one ts i home)).disk
    go true rest = (moves t (inl refl)).dest
    go false rest = rest

  moved_placed : (k : ℕ) (ts : List Transfer) (homes : List Location) → AreMovesWithin shape ts → AreOnDisks shape homes → AreOnDisks shape (moved k ts homes)
  moved_placed k ts [] moves placed home i = absurd i
  moved_placed k ts (x ∷ xs) moves placed home (inl e) = subst (λ (h : Location). IsDisk shape h.disk) (sym e) (moved_one_placed ts k x moves (placed x (inl refl)))
  moved_placed k ts (x ∷ xs) moves placed home (inr i) = moved_placed (suc k) ts xs moves (λ h j. placed h (inr j)) home i

  swapped_moves : (lock : Option Lock) → AreMovesWithin shape (transfers_of lock) → AreMovesWithin shape (transfers_of (swapped_lock lock))
  swapped_moves None moves = moves
  swapped_moves (Some lock) moves = moves

-- ---- parts

pub placed_first : (shape : Shape) (homes : List Location) → AreFirstHomes (shape_of shape) homes → IsPlaced (shape_of shape) (fresh_manager homes)
placed_first shape homes first = record {
  homes = fresh_placed (shape_of shape) homes (are_fresh (shape_of shape) homes first);
  moves = λ t i. absurd i;
  most = none_most shape;
}

module _ (shape : Shape) (m : Manager) (count : length m.homes ≡ (shape_of shape).total) (is : IsPlaced (shape_of shape) m) where
  pub placed_after : (item : ManagerRecord) → IsLegal (shape_of shape) m item → IsPlaced (shape_of shape) (written item m)
  placed_after (ManagerRecord.Made homes) legal = absurd legal
  placed_after (ManagerRecord.Leased time) legal = record { homes = is.homes; moves = is.moves; most = is.most }
  placed_after (ManagerRecord.Locked task number grants) legal = record {
    homes = is.homes;
    moves = granted_moves (shape_of shape) m.homes m.greatest count is.homes grants legal.homes;
    most = subst (IsMost (shape_of shape)) (sym (length-transfers grants m.homes)) legal.most;
  }
  placed_after (ManagerRecord.Retargeted grant) legal = record {
    homes = is.homes;
    moves = lock_redirected_moves (shape_of shape) grant m.lock legal.home.disk is.moves;
    most = redirected_most (shape_of shape) grant m.lock is.most;
  }
  placed_after ManagerRecord.Swapped legal = record {
    homes = moved_placed (shape_of shape) 0 (transfers_of m.lock) m.homes is.moves is.homes;
    moves = swapped_moves (shape_of shape) m.lock is.moves;
    most = swapped_most (shape_of shape) m.lock is.most;
  }
  placed_after ManagerRecord.Unlocked legal = record { homes = is.homes; moves = λ t i. absurd i; most = none_most shape }
  placed_after (ManagerRecord.Asked bid) legal = record { homes = is.homes; moves = is.moves; most = is.most }
  placed_after (ManagerRecord.Committed bid) legal = record { homes = is.homes; moves = is.moves; most = is.most }
