-- What a crash inside a call leaves under the names of a station.
use Rattle.std.proofs.Common.{◌≡◌, ◌≢◌, ◌≤◌, ◌∙◌, sym, ap, refl, subst, ℕ, Bool, true, List, [], Option, None, Some, IsSomeAnd, ◌⊎◌, inl, inr}
use Rattle.std.specs.Prelude.{option_map}
use Rattle.unit_id.specs.UnitName.{Name, IsName, packed}
use Rattle.unit_id.specs.Place.{Place}
use Rattle.unit_id.specs.Messages.{place_at, request_of}
use Rattle.unit_id.specs.Request.{place_of}
use Rattle.unit_id.specs.declared.request.Request as sent
use Rattle.unit_id.specs.declared.request.Request.TheVariants as requests
use Rattle.disk_base.specs.Disk.{FileView, IsFile}
use Rattle.disk_base.specs.Shelves.{ShelfView}
use Rattle.disk_base.specs.JointMoments.{ShelfImage, Rack, leaves_by, LeavesAt, AtEachJointMoment, Starts, GoesOnAt, about_file}
use Rattle.chunk_store.specs.Chunk.{shown}
use Rattle.chunk_store.specs.Records.{IsChunkOf}
use Rattle.blob_node.specs.Units.{Units}
use Rattle.blob_node.specs.Holding.{Written}
use Rattle.blob_node.specs.HeldUnit.{UnitOver, record_of_doubt, is_released, name_of, disk_of, is_create, ServesThrough}
use Rattle.blob_node.specs.UnitTable.{TableOver, at_word, unit_at, Replaces}
use Rattle.blob_node.specs.NewChunk.{IsTried}
use Rattle.blob_node.specs.Station.{StationOver, name_at, rack_of, StandsAt, Stands, LeavesRecords, LeavesInCall, CrashLeaves}
use Rattle.blob_node.proofs.Settling.{crash_leaves}
use Rattle.blob_node.proofs.Standing.{decide, apart_words}
use Rattle.blob_node.proofs.Serving.{station_of, is_now, others_now}

-- a claim on every moment, of which less is said
pub said_less : {H F : Type 0} (shelf_seen : H → ShelfView F) (seen : F → FileView) (P Q : ShelfImage → Type 0) → ((c : ShelfImage) → P c → Q c) → (old new : Rack H F) → AtEachJointMoment shelf_seen seen P old new → AtEachJointMoment shelf_seen seen Q old new
said_less shelf_seen seen P Q less old new (Starts now) = Starts (λ c is. less c (now c is))
said_less shelf_seen seen P Q less old new (GoesOnAt mid _ name so_far step) =
    GoesOnAt mid new name (said_less shelf_seen seen P Q less old mid so_far) (record { others = step.others; ends = step.ends; each = λ c left rest. less c (step.each c left rest) })

-- a request that makes a unit
pub create_is : (request : sent.Request) → is_create request ≡ true → request ≡ requests.Create (name_of request) (disk_of request)
create_is (requests.Create unit disk) e = refl
create_is (requests.Fence unit disk lock) e = cc
create_is (requests.Put unit disk bid blob_size bytes) e = cc
create_is (requests.Read unit disk bid) e = cc
create_is (requests.List unit disk lock) e = cc
create_is (requests.Copy unit disk bid blob_size bytes) e = cc
create_is (requests.Mark unit disk bid) e = cc
create_is (requests.Free unit disk bid) e = cc
create_is (requests.Release unit disk) e = cc

-- ---- what may be left before a call

module _ {H F : Type 0} (shelf_seen : H → ShelfView F) (seen : F → FileView) (written : Place → Written) (units : Units) (station : StationOver H F) (stands : Stands shelf_seen seen station written units) where
  records_by : (q : Place) (o : Option (UnitOver F)) → StandsAt shelf_seen seen station written units q o → (x : Option (List ℕ))
      → leaves_by shelf_seen seen (option_map (λ unit. unit.chunk.log.file) o) station.shelf (packed (name_at station.vid q)) x → LeavesRecords shelf_seen seen written station q o x
  records_by q (Some unit) held None left = absurd left
  records_by q (Some unit) held (Some bytes) left = crash_leaves (shown seen unit.chunk) (option_map record_of_doubt unit.doubt) (is_released unit) (written q) units q held bytes left
  records_by q None none x left = left

  pub records_before : (q : Place) → q.disk ≡ station.disk → IsName (name_at station.vid q) → (x : Option (List ℕ)) → LeavesAt shelf_seen seen (rack_of station) (packed (name_at station.vid q)) x
      → LeavesRecords shelf_seen seen written station q (unit_at station.units (name_at station.vid q)) x
  records_before q at name x left = records_by q (unit_at station.units (name_at station.vid q)) (stands.each q at name) x left

  pub crash_none : CrashLeaves shelf_seen seen station station (LeavesRecords shelf_seen seen written station)
  crash_none = Starts (λ c is q at name. records_before q at name (c (packed (name_at station.vid q))) (is (packed (name_at station.vid q))))

  -- nothing was done at a request
  pub crash_same : (request : sent.Request) (found : Option Bool) → CrashLeaves shelf_seen seen station station (LeavesInCall shelf_seen seen request written units found station)
  crash_same request found = Starts (λ c is q at name. inl (records_before q at name (c (packed (name_at station.vid q))) (is (packed (name_at station.vid q)))))

-- ---- calls on the file of a unit

module _ {H F : Type 0} (shelf_seen : H → ShelfView F) (seen : F → FileView) (shelf : H) (disk : ℕ) (is_broken : Bool) (old new : TableOver F) (word : ℕ) (was now : UnitOver F) (replaces : Replaces word old new was now) (is_file : IsFile (seen now.chunk.log.file)) where
  abbrev before : StationOver H F
  before = station_of shelf disk is_broken old

  abbrev after : StationOver H F
  after = station_of shelf disk is_broken new

  abbrev Since : Option (List ℕ) → Type 0
  Since x = IsSomeAnd x ((seen now.chunk.log.file).images_since (seen was.chunk.log.file).clock)

  same_files : (n : ℕ) → n ≢ word → (rack_of after).out n ≡ (rack_of before).out n
  same_files n ne = ap (option_map (λ (unit : UnitOver F). unit.chunk.log.file)) (others_now shelf_seen seen shelf disk is_broken old new word was now replaces n ne)

  module _ (first : StationOver H F) (Leaves : Place → Option (UnitOver F) → Option (List ℕ) → Type 0) (place : Place) (at : place.disk ≡ first.disk) (name : IsName (name_at first.vid place)) (word_is : word ≡ packed (name_at first.vid place)) where
    abbrev At : Place → Option (List ℕ) → Type 0
    At q x = Leaves q (unit_at first.units (name_at first.vid q)) x

    now_there : at_word word new.units ≡ Some now
    now_there = subst (λ (w : ℕ). at_word w new.units ≡ Some now) (sym word_is) (is_now shelf_seen seen shelf disk is_broken old new word was now replaces (name_at first.vid place) word_is)

    module _ (le : (seen was.chunk.log.file).clock ≤ (seen now.chunk.log.file).clock) (here : (x : Option (List ℕ)) → Since x → At place x)
        (others : (q : Place) → q.disk ≡ first.disk → IsName (name_at first.vid q) → (x : Option (List ℕ)) → LeavesAt shelf_seen seen (rack_of before) (packed (name_at first.vid q)) x → At q x) where
      each : (c : ShelfImage) → Since (c word) → ((n : ℕ) → n ≢ word → LeavesAt shelf_seen seen (rack_of before) n (c n)) → (q : Place) → q.disk ≡ first.disk → IsName (name_at first.vid q) → At q (c (packed (name_at first.vid q)))
      each c left rest q own named = by (decide q place)
        where
          by : (q ≡ place) ⊎ (q ≡ place → ⊥) → At q (c (packed (name_at first.vid q)))
          by (inl same) = subst (λ (p : Place). At p (c (packed (name_at first.vid p)))) (sym same) (subst (λ (w : ℕ). At place (c w)) word_is (here (c word) left))
          by (inr other) = others q own named (c (packed (name_at first.vid q))) (rest (packed (name_at first.vid q)) (λ e. apart_words first.vid q place (own ∙ sym at) named name other (e ∙ word_is)))

      pub crash_on : CrashLeaves shelf_seen seen first before Leaves → CrashLeaves shelf_seen seen first after Leaves
      crash_on so_far =
          GoesOnAt (rack_of before) (rack_of after) word so_far
          (about_file shelf_seen seen (λ image. (q : Place) → q.disk ≡ first.disk → IsName (name_at first.vid q) → At q (image (packed (name_at first.vid q)))) word (rack_of before) (rack_of after) same_files
          was.chunk.log.file now.chunk.log.file (ap (option_map (λ (unit : UnitOver F). unit.chunk.log.file)) replaces.found)
          (ap (option_map (λ (unit : UnitOver F). unit.chunk.log.file)) now_there) refl is_file le each)

  -- a request to a unit that stands here
  module _ (request : sent.Request) (written : Place → Written) (units : Units) (found : Option Bool) (stands : Stands shelf_seen seen before written units) where
    abbrev asked : Place
    asked = place_of (request_of request)

    abbrev Leaves_ : Place → Option (UnitOver F) → Option (List ℕ) → Type 0
    Leaves_ = LeavesInCall shelf_seen seen request written units found before

    module _ (at : asked.disk ≡ disk) (name : IsName (name_at old.vid asked)) (word_is : word ≡ packed (name_at old.vid asked)) (through : ServesThrough seen request (written asked) units asked found was now) where
      inside : (x : Option (List ℕ)) → Since x → Leaves_ asked (Some was) x
      inside None left = absurd left
      inside (Some bytes) left = elim (through.each bytes left) [ inl says ↦ inl says | inr work ↦ inr (refl, work) ]

      was_there : unit_at old.units (name_at old.vid asked) ≡ Some was
      was_there = subst (λ (w : ℕ). at_word w old.units ≡ Some was) word_is replaces.found

      pub crash_served : CrashLeaves shelf_seen seen before after Leaves_
      crash_served =
          crash_on before Leaves_ asked at name word_is through.never_falls (λ x left. subst (λ (o : Option (UnitOver F)). Leaves_ asked o x) (sym was_there) (inside x left))
          (λ q own named x left. inl (records_before shelf_seen seen written units before stands q own named x left)) (crash_same shelf_seen seen written units before stands request found)

-- ---- a unit that is to be made

module _ {H F : Type 0} (shelf_seen : H → ShelfView F) (seen : F → FileView) (station new : StationOver H F) (unit : Name) (name : IsName unit) (own : unit.vid ≡ station.vid) (none : unit_at station.units unit ≡ None) where
  abbrev made : Place
  made = place_at unit station.disk

  named_is : name_at station.vid made ≡ unit
  named_is = λ i. record { vid = sym own i; index = unit.index; epoch = unit.epoch }

  made_name : IsName (name_at station.vid made)
  made_name = subst IsName (sym named_is) name

  module _ (written : Place → Written) (units : Units) (stands : Stands shelf_seen seen station written units) where
    abbrev request : sent.Request
    request = requests.Create unit station.disk

    abbrev Made : Place → Option (List ℕ) → Type 0
    Made q x = LeavesInCall shelf_seen seen request written units None station q (unit_at station.units (name_at station.vid q)) x

    known : (q : Place) → q.disk ≡ station.disk → IsName (name_at station.vid q) → (x : Option (List ℕ)) → LeavesAt shelf_seen seen (rack_of station) (packed (name_at station.vid q)) x → Made q x
    known q at named x left = inl (records_before shelf_seen seen written units station stands q at named x left)

    made_at : (c : ShelfImage) → LeavesAt shelf_seen seen (rack_of station) (packed unit) (c (packed unit)) ⊎ IsSomeAnd (c (packed unit)) (λ bytes. IsChunkOf bytes unit []) → Made made (c (packed (name_at station.vid made)))
    made_at c (inl left) = known made refl made_name (c (packed (name_at station.vid made))) (subst (λ (n : Name). LeavesAt shelf_seen seen (rack_of station) (packed n) (c (packed n))) (sym named_is) left)
    made_at c (inr empty) =
        subst (λ (o : Option (UnitOver F)). LeavesInCall shelf_seen seen request written units None station made o (c (packed (name_at station.vid made)))) (sym (ap (unit_at station.units) named_is ∙ none))
        (inr (refl, (refl, subst (λ (n : Name). IsSomeAnd (c (packed n)) (λ bytes. IsChunkOf bytes n [])) (sym named_is) empty)))

    all_tried : (c : ShelfImage) → IsTried shelf_seen seen unit (rack_of station) c → (q : Place) → q.disk ≡ station.disk → IsName (name_at station.vid q) → Made q (c (packed (name_at station.vid q)))
    all_tried c is q at named = by (decide q made)
      where
        by : (q ≡ made) ⊎ (q ≡ made → ⊥) → Made q (c (packed (name_at station.vid q)))
        by (inl same) = subst (λ (p : Place). Made p (c (packed (name_at station.vid p)))) (sym same) (made_at c is.here)
        by (inr other) =
            known q at named (c (packed (name_at station.vid q)))
            (is.others (packed (name_at station.vid q)) (λ e. apart_words station.vid q made at named made_name other (e ∙ ap packed (sym named_is))))

    pub crash_tried : AtEachJointMoment shelf_seen seen (IsTried shelf_seen seen unit (rack_of station)) (rack_of station) (rack_of new) → CrashLeaves shelf_seen seen station new (LeavesInCall shelf_seen seen request written units None station)
    crash_tried = said_less shelf_seen seen (IsTried shelf_seen seen unit (rack_of station)) (λ image. (q : Place) → q.disk ≡ station.disk → IsName (name_at station.vid q) → Made q (image (packed (name_at station.vid q)))) all_tried (rack_of station) (rack_of new)
