-- The units that the tables give a new volume are homes with which it may be made.
use Rattle.std.proofs.Common.{◌≡◌, ◌∙◌, sym, ap, refl, subst, ℕ, zero, suc, ◌+◌, ◌<◌, ◌≤◌, List, [], ◌∷◌, length, Some, None, arith}
use Rattle.std.specs.Prelude.{slice_get}
use Rattle.unit_id.specs.declared.homes.Home.{Home}
use Rattle.unit_id.specs.Place.{Location}
use Rattle.disk_base.specs.Disk.{FileView}
use Rattle.disk_base.specs.Shelves.{ShelfView}
use Rattle.disk_base.specs.Farms.{FarmView}
use Rattle.code_mode.specs.declared.mode.Mode.{Mode}
use Rattle.code_mode.specs.Mode.{total_count}
use Rattle.cluster_admin.specs.Cluster.{State}
use Rattle.cluster_admin.specs.Drawing.{new_homes, with_volume}
use Rattle.cluster_admin.specs.Refusals.{new_volume_fault}
use Rattle.cluster_admin.specs.NewHomes.{AreNewHomes}
use Rattle.volume_entry.specs.Manager.{AreFirstHomes, home_at}
use Rattle.volume_entry.specs.TableParts.{shape_of}
use Rattle.volume_world.specs.WorldMaking.{AreHomesOf, location_of, locations}
use Rattle.farm_volume.specs.Making.{CanMake, IsMade}
use Rattle.farm_volume.specs.FarmVolume.{VolumeOver}
use Rattle.volume_maker.specs.Making.{HasRoom, IsNext, next_homes, next_number}

own_homes : (vid index : ℕ) (disks : List ℕ) → AreHomesOf vid index (new_homes vid index disks)
own_homes vid index [] = tt
own_homes vid index (disk ∷ disks) = (refl, refl, subst (λ n. AreHomesOf vid n (new_homes vid (index + 1) disks)) (omega arith) (own_homes vid (index + 1) disks))

long_locations : (homes : List Home) → length (locations homes) ≡ length homes
long_locations [] = refl
long_locations (home ∷ homes) = ap suc (long_locations homes)

-- at each place there is a home, and the location is its
pub record IsHomeAt (homes : List Home) (place : ℕ) : Type 0 where
  pub home : Home
  pub there : slice_get homes place ≡ Some home
  pub location : home_at (locations homes) place ≡ location_of home

home_there : (homes : List Home) (place : ℕ) → place < length homes → IsHomeAt homes place
home_there [] place below = absurd (omega (arith, below))
home_there (home ∷ homes) zero below = record { home = home; there = refl; location = refl }
home_there (home ∷ homes) (suc place) below =
    let rest = home_there homes place (omega (arith, below)) in
    record { home = rest.home; there = rest.there; location = rest.location }

module _ (disks : ℕ) (mode : Mode) (vid : ℕ) (homes : List Home) (legal : AreNewHomes disks mode vid homes) where
  at : (i : ℕ) → i < total_count mode → IsHomeAt homes i
  at i below = let count = legal.count in home_there homes i (omega (arith, below, count))

  pub first_homes : AreFirstHomes (shape_of (record { mode = mode; disks = disks })) (locations homes)
  first_homes = record {
    count = long_locations homes ∙ legal.count;
    epochs = λ i below.
        let h = at i below in
        let epoch : (home_at (locations homes) i).epoch ≡ 1 = ap (λ (l : Location). l.epoch) h.location ∙ ap (λ u. u.epoch) (legal.own i h.home h.there).0 in
        (omega (arith, epoch), omega (arith, epoch));
    disks = λ i below.
        let h = at i below in
        let disk : (home_at (locations homes) i).disk ≡ h.home.disk = ap (λ (l : Location). l.disk) h.location in
        let there = legal.there i h.home h.there in
        record { first = omega (arith, disk, there.0); last = omega (arith, disk, there.1) };
    apart = λ i j below less same.
        let one = at i below in
        let other = at j less in
        legal.apart i j one.home other.home one.there other.there
        (sym (ap (λ (l : Location). l.disk) one.location) ∙ same ∙ ap (λ (l : Location). l.disk) other.location);
  }

pub can_make : {S F : Type 0} (shelf_seen : S → ShelfView F) (tables : State) (mode : Mode) (disks : List ℕ) (farm : FarmView S) → HasRoom shelf_seen tables farm → length tables.disks ≤ 64
    → AreNewHomes (length tables.disks) mode (next_number tables) (next_homes tables disks) → CanMake shelf_seen (next_number tables) mode (length tables.disks) (next_homes tables disks) farm
can_make shelf_seen tables mode disks farm room few legal = record {
  back = room.back;
  fresh = room.fresh;
  few = few;
  first = first_homes (length tables.disks) mode (next_number tables) (next_homes tables disks) legal;
  own = own_homes (next_number tables) 0 disks;
}

-- what the tables give: a number, and units on some disks
module _ (tables : State) (mode : Mode) (disks : List ℕ) (vid count : ℕ) (homes : List Home) (vid_is : vid ≡ next_number tables) (homes_are : homes ≡ new_homes vid 0 disks) (count_is : count ≡ length tables.disks)
    (legal : AreNewHomes (length tables.disks) mode vid homes) where
  same_homes : homes ≡ next_homes tables disks
  same_homes = homes_are ∙ ap (λ v. new_homes v 0 disks) vid_is

  legal_homes : AreNewHomes (length tables.disks) mode (next_number tables) (next_homes tables disks)
  legal_homes = subst (λ hs. AreNewHomes (length tables.disks) mode (next_number tables) hs) same_homes (subst (λ v. AreNewHomes (length tables.disks) mode v homes) vid_is legal)

  module _ {S F : Type 0} (shelf_seen : S → ShelfView F) (before : FarmView S) where
    pub can_make_given : HasRoom shelf_seen tables before → count ≤ 64 → CanMake shelf_seen vid mode count homes before
    can_make_given room few =
        subst (λ hs. CanMake shelf_seen vid mode count hs before) (sym same_homes) (subst (λ v. CanMake shelf_seen v mode count (next_homes tables disks) before) (sym vid_is)
        (subst (λ n. CanMake shelf_seen (next_number tables) mode n (next_homes tables disks) before) (sym count_is) (can_make shelf_seen tables mode disks before room (omega (arith, few, count_is)) legal_homes)))

    pub is_next : (seen : F → FileView) (new : State) (after : FarmView S) (volume : VolumeOver S F) → new_volume_fault tables mode ≡ None → new ≡ with_volume tables mode disks
        → IsMade shelf_seen seen vid mode count homes before after volume → IsNext shelf_seen seen mode tables new before after volume
    is_next seen new after volume is_open new_is made = record {
      disks = disks;
      given = record { open_ = is_open; legal = legal_homes };
      tables = new_is;
      made = subst (λ hs. IsMade shelf_seen seen (next_number tables) mode (length tables.disks) hs before after volume) same_homes (subst (λ v. IsMade shelf_seen seen v mode (length tables.disks) homes before after volume) vid_is
          (subst (λ n. IsMade shelf_seen seen vid mode n homes before after volume) count_is made));
    }
