-- Where an object is, as JSON.
use Rattle.std.specs.Prelude.{ℕ, ◌+◌, ◌-◌, ◌*◌, ◌%◌, ◌^◌, List, codes, map, min, Option, Some, None}
use Rattle.std.specs.Int.{div_ceil}
use Rattle.std.specs.List.{range_with_len}
use Rattle.serde_json.specs.Data.{Data, unsigned, number, string, array, object, no_items, item, no_members, member}
use Rattle.serde_json.specs.View.{items_of}
use Rattle.code_mode.specs.declared.mode.Mode.{Mode}
use Rattle.code_mode.specs.Mode.{mode_name}
use Rattle.unit_id.specs.declared.homes.Home.{Home}
use Rattle.std.specs.Map.{lookup}
use Rattle.std.specs.Str.{bytes_eq}
use Rattle.cluster_admin.specs.Volumes.{volume_at}
use Rattle.cluster_admin.specs.Cluster.{State}
use Rattle.cluster_admin.specs.declared.names.Object.{Object}
use Rattle.cluster_admin.specs.declared.volumes.Volume.{Volume}
use Rattle.cluster_admin.specs.declared.fault.AdminFault.{AdminFault}
use Rattle.cluster_admin.specs.declared.fault.AdminFault.TheVariants as faults

-- the most bytes of a blob
abbrev pub largest_blob : ℕ
largest_blob = 4194304

-- a blob of an object, counted from 0: its bid and its bytes
abbrev pub blob_data : Object → ℕ → Data
blob_data at place =
    array (item (number (unsigned ((at.bid + place) % 2 ^ 64))) (item (number (unsigned (min (at.size - place * largest_blob) largest_blob))) no_items))

-- all its blobs
abbrev pub blobs_data : Object → List Data
blobs_data at = map (blob_data at) (range_with_len 0 (div_ceil at.size largest_blob))

-- a unit: its index, epoch and disk
abbrev pub unit_data : Home → Data
unit_data home = array (item (number (unsigned home.unit.index)) (item (number (unsigned home.unit.epoch)) (item (number (unsigned home.disk)) no_items)))

-- the location of an object in a volume of a mode with these units, its keys ascending
abbrev pub location_data : Object → Mode → List Home → Data
location_data at mode homes =
    object (member (codes "blobs") (array (items_of (blobs_data at)))
    (member (codes "mode") (string (mode_name mode))
    (member (codes "size") (number (unsigned at.size))
    (member (codes "units") (array (items_of (map unit_data homes)))
    (member (codes "vid") (number (unsigned at.vid)) no_members)))))

abbrev pub located_at : Object → List Home → Option Volume → Option Data
located_at at homes (Some volume) = Some (location_data at volume.mode homes)
located_at at homes None = None

abbrev pub located_in : State → List Home → Option Object → Option Data
located_in state homes (Some at) = located_at at homes (volume_at state.volumes at.vid)
located_in state homes None = None

-- the location of the object of a name, whose volume has these units
abbrev pub located : State → List ℕ → List Home → Option Data
located state name homes = located_in state homes (lookup (bytes_eq name) state.names)

abbrev pub volume_fault : Option Volume → Option AdminFault
volume_fault (Some volume) = None
volume_fault None = Some faults.NoVolume

abbrev pub object_fault : State → Option Object → Option AdminFault
object_fault state (Some at) = volume_fault (volume_at state.volumes at.vid)
object_fault state None = Some faults.NoName

-- why there is no location: the name isn't held, or its volume was lost
abbrev pub location_fault : State → List ℕ → Option AdminFault
location_fault state name = object_fault state (lookup (bytes_eq name) state.names)
