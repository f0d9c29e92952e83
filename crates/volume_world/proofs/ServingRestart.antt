-- A restart of one disk as entries of the history: each record in doubt there is settled, and then all chunks are open.
use Rattle.std.proofs.Common.{◌≡◌, ◌∙◌, sym, ap, refl, subst, ℕ, ◌+◌, ◌≤◌, Bool, true, false, List, [], ◌∷◌, Option, None, Some, ◌⊎◌, inl, inr, arith}
use Rattle.std.specs.Prelude.{is_some, option_map, ◌||◌}
use Rattle.unit_id.specs.Lists.{IsIn}
use Rattle.unit_id.specs.UnitName.{packed}
use Rattle.unit_id.specs.Place.{Place, is_place}
use Rattle.unit_id.specs.Messages.{place_at}
use Rattle.unit_id.proofs.Places.{is_place_gives}
use Rattle.shard_record.specs.declared.record.ShardRecord.{ShardRecord}
use Rattle.disk_base.specs.Disk.{FileView}
use Rattle.disk_base.specs.Shelves.{ShelfView}
use Rattle.blob_node.specs.Units.{UnitRecord, Units}
use Rattle.blob_node.specs.UnitAnswer.{with_written, settled, settled_at}
use Rattle.blob_node.specs.Holding.{Written, without_bytes}
use Rattle.blob_node.specs.HeldUnit.{UnitOver}
use Rattle.blob_node.specs.UnitTable.{unit_at}
use Rattle.blob_node.specs.Station.{StationOver, name_at, Stands, StandsAt, units_settled, AreInOrder, is_settled, all_open}
use Rattle.blob_node.specs.declared.settled.Settled.{Settled}
use Rattle.blob_node.proofs.Lookups.{there_now}
use Rattle.blob_node.proofs.Holdings.{never_both, record_doubt}
use Rattle.blob_node.proofs.Standing.{decide, not_place, settled_elsewhere}
use Rattle.volume_entry.specs.Reply.{Reply}
use Rattle.volume_world.specs.State.{State}
use Rattle.volume_world.specs.Move.{Restarts, SettlesUnit}
use Rattle.volume_world.specs.Serving.{once_settled, SettlesEach}

-- ---- a record in doubt

written_doubt : (place p : Place) (o : Option UnitRecord) (units : Units) → (with_written place o units).doubt p ≡ units.doubt p
written_doubt place p None units = refl
written_doubt place p (Some r) units = record_doubt place p r units

-- a settled record is in doubt no more
none_left : (place : Place) (found : Bool) (units : Units) → (settled place found units).doubt place ≡ None
none_left place true units = written_doubt place place (units.doubt place) (settled_at place units) ∙ there_now place None units.doubt
none_left place false units = there_now place None units.doubt

-- a record that is in doubt after all these are settled was so before, and isn't one of them
still_doubtful : (disk : ℕ) (q : Place) (items : List Settled) (units : Units) → is_some ((units_settled disk items units).doubt q) ≡ true → (is_some (units.doubt q) ≡ true) × (is_settled disk q items ≡ false)
still_doubtful disk q [] units some = (some, refl)
still_doubtful disk q (item ∷ rest) units some = go (decide q (place_at item.unit disk)) (still_doubtful disk q rest (settled (place_at item.unit disk) item.found units) some) where
  go : (q ≡ place_at item.unit disk) ⊎ (q ≡ place_at item.unit disk → ⊥)
      → (is_some ((settled (place_at item.unit disk) item.found units).doubt q) ≡ true) × (is_settled disk q rest ≡ false) → (is_some (units.doubt q) ≡ true) × ((is_place (place_at item.unit disk) q || is_settled disk q rest) ≡ false)
  go (inl same) later = absurd (never_both false refl (ap is_some (sym (none_left (place_at item.unit disk) item.found units) ∙ ap (settled (place_at item.unit disk) item.found units).doubt (sym same)) ∙ later.0))
  go (inr other) later = (
    ap is_some (sym (settled_elsewhere (place_at item.unit disk) q other item.found units).doubt) ∙ later.0,
    ap (λ b. b || is_settled disk q rest) (not_place (place_at item.unit disk) q (λ same. other (sym same))) ∙ later.1,
  )

-- ---- entries

-- two names of one volume are those of two places
apart_places : (disk vid : ℕ) (a b : Settled) → a.unit.vid ≡ vid → b.unit.vid ≡ vid → packed a.unit + 1 ≤ packed b.unit → place_at b.unit disk ≡ place_at a.unit disk → ⊥
apart_places disk vid a b own other less same =
    let index = ap (λ (p : Place). p.index) same in let epoch = ap (λ (p : Place). p.epoch) same in omega (arith, own, other, less, index, epoch)

settles_one : (place : Place) (found : Bool) (s : State) → is_some (s.units.doubt place) ≡ true → s.units.is_shut place ≡ true → SettlesUnit place s found (once_settled place (Some found) s)
settles_one place true s doubtful shut = (shut, doubtful, refl)
settles_one place false s doubtful shut = (shut, refl)

-- records in doubt of an unbroken disk, in order, are settled one by one
pub settles_each : (disk vid : ℕ) (s : State) (items : List Settled) → s.broken disk ≡ false → ((item : Settled) → IsIn item items → item.unit.vid ≡ vid) → AreInOrder items
    → ((item : Settled) → IsIn item items → (is_some (s.units.doubt (place_at item.unit disk)) ≡ true) × (s.units.is_shut (place_at item.unit disk) ≡ true))
    → SettlesEach disk s items (record s { units = units_settled disk items s.units })
settles_each disk vid s [] unbroken own order doubtful = refl
settles_each disk vid s (item ∷ rest) unbroken own order doubtful =
    let place = place_at item.unit disk in
    let here = doubtful item (inl refl) in (
      record { place = place; here = refl; unbroken = unbroken; doubtful = here.0; settles = settles_one place item.found s here.0 here.1 },
      settles_each disk vid (once_settled place (Some item.found) s) rest unbroken (λ other is. own other (inr is)) order.1 (λ other is.
          let was = doubtful other (inr is) in
          let same = settled_elsewhere place (place_at other.unit disk) (apart_places disk vid item other (own item (inl refl)) (own other (inr is)) (order.0 other is)) item.found s.units in
          (ap is_some same.doubt ∙ was.0, same.shut was.1)),
    )

-- .. and once all are, the restart opens every chunk
pub restarts_done : (disk : ℕ) (s : State) (items : List Settled) (units : Units) → s.broken disk ≡ false → s.units ≡ units_settled disk items units → ((q : Place) → q.disk ≡ disk → is_some (units.doubt q) ≡ is_settled disk q items)
    → Restarts disk s Reply.Done (record s { units = all_open disk s.units })
restarts_done disk s items units unbroken same told = inr (unbroken, (λ q here. go q here (s.units.doubt q) refl), refl) where
  go : (q : Place) → q.disk ≡ disk → (o : Option UnitRecord) → s.units.doubt q ≡ o → s.units.doubt q ≡ None
  go q here None e = e
  go q here (Some r) e =
      let still = still_doubtful disk q items units (ap (λ (u : Units). is_some (u.doubt q)) (sym same) ∙ ap is_some e) in
      absurd (never_both (is_settled disk q items) still.1 (sym (told q here) ∙ still.0))

-- ---- a record in doubt stands in a shut chunk

module _ {H F : Type 0} (shelf_seen : H → ShelfView F) (seen : F → FileView) (station : StationOver H F) (written : Place → Written) (units : Units) (stands : Stands shelf_seen seen station written units) where
  bytes_doubt : (d : Option ShardRecord) → d ≡ None → is_some (option_map without_bytes d) ≡ false
  bytes_doubt None e = refl
  bytes_doubt (Some r) e = absurd (never_both false refl (ap is_some (sym e)))

  shut_at : (q : Place) (o : Option (UnitOver F)) → StandsAt shelf_seen seen station written units q o → units.is_made q ≡ true → is_some (units.doubt q) ≡ true → units.is_shut q ≡ true
  shut_at q None none made doubtful = absurd (never_both (units.is_made q) none.0 made)
  shut_at q (Some unit) held made doubtful = go unit.chunk.is_shut refl where
    go : (b : Bool) → unit.chunk.is_shut ≡ b → units.is_shut q ≡ true
    go true e = held.shut e
    go false e =
        absurd (never_both (is_some (units.doubt q)) (ap is_some (held.doubted ∙ sym held.doubt_is) ∙ bytes_doubt (written q).doubt (held.file.0 e).1) doubtful)

  pub doubtful_is_shut : (q : Place) → q.disk ≡ station.disk → is_some (units.doubt q) ≡ true → units.is_shut q ≡ true
  doubtful_is_shut q here doubtful = go (units.is_made q) refl where
    go : (b : Bool) → units.is_made q ≡ b → units.is_shut q ≡ true
    go true made = shut_at q (unit_at station.units (name_at station.vid q)) (stands.each q here (stands.named q here made)) made doubtful
    go false none = absurd (never_both false refl (ap is_some (sym (stands.bare q here none).settled_) ∙ doubtful))
