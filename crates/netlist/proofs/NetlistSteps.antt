-- The netlist of a tree, step by step.
use Rattle.std.proofs.Common.{◌≡◌, ℕ, Bool, false, true, [], List, length, Option, Some, None, Ok, Err, refl}
use Rattle.std.specs.Prelude.{codes, nat_le}
use Rattle.serde_json.specs.Data.{Data}
use Rattle.std.specs.List.{filter_map}
use Rattle.serde_json.specs.Find.{as_str, get}
use Rattle.itv_base.specs.declared.limits.TheConstants.{MAX_PARTS, MAX_SHEET_NAMES}
use Rattle.netlist.specs.declared.fault.NetlistFault.{NetlistFault}
use Rattle.netlist.specs.declared.fault.NetlistFault.TheVariants.{PartsNotList, TooManyParts, TooManySheets, NetsNotList, EdgesNotList}
use Rattle.netlist.specs.declared.part.Part.{Part}
use Rattle.netlist.specs.declared.wire.Wire.{Wire}
use Rattle.netlist.specs.NetlistContents.{PinNetView}
use Rattle.netlist.specs.Fault.{is_memory}
use Rattle.json_tree.specs.Words.{list_at}
use Rattle.json_tree.specs.StrayKeys.{stray_in_netlist}
use Rattle.json_tree.specs.declared.stray_key.StrayKey.{StrayKey}
use Rattle.netlist.specs.Netlist.{cycles_of, edges_of, list_if, parts_of, nets_of, wires_of, netlist_of, sheet_names, with_part, with_net, with_wire, version_of}
use Rattle.itv_base.specs.Reading.{walk, UnlessTrue, IsReadingFault}
use Rattle.itv_base.proofs.Faults.{IsReadingFault-first}

-- what holds, holds unless a test is met
holds_unless : {P : Type 0} (b : Bool) → P → UnlessTrue b P
holds_unless true p = tt
holds_unless false p = p

module _ (tree : Data) where
  -- ---- parts

  module _ (version : ℕ) where
    pub parts-none : list_at (codes "parts") tree ≡ None → parts_of version tree ≡ Err PartsNotList
    unfolding parts_of
    parts-none none = rw none refl

    module _ (listed : List Data) (read : list_at (codes "parts") tree ≡ Some listed) where
      pub parts-many : nat_le (length listed) MAX_PARTS ≡ false → parts_of version tree ≡ Err (TooManyParts (length listed))
      unfolding parts_of
      parts-many many = rw (read, many) refl

      module _ (few : nat_le (length listed) MAX_PARTS ≡ true) where
        pub parts-fault : (fault : NetlistFault) → IsReadingFault is_memory (walk (with_part version) 0 [] listed) fault → IsReadingFault is_memory (parts_of version tree) fault
        unfolding parts_of
        parts-fault fault h = rw (read, few) (IsReadingFault-first is_memory (walk (with_part version) 0 [] listed) _ fault h)

        module _ (parts : List Part) (are : walk (with_part version) 0 [] listed ≡ Ok parts) where
          pub parts-sheets : nat_le (length (sheet_names parts)) MAX_SHEET_NAMES ≡ false → parts_of version tree ≡ Err (TooManySheets (length (sheet_names parts)))
          unfolding parts_of
          parts-sheets many = rw (read, few, are, many) refl

          pub parts-ok : nat_le (length (sheet_names parts)) MAX_SHEET_NAMES ≡ true → parts_of version tree ≡ Ok parts
          unfolding parts_of
          parts-ok some = rw (read, few, are, some) refl

  -- ---- nets and wires

  pub nets-fault : (fault : NetlistFault) → list_if (get (codes "nets") tree) NetsNotList ≡ Err fault → IsReadingFault is_memory (nets_of tree) fault
  unfolding nets_of
  nets-fault fault is = rw is (holds_unless (is_memory fault) refl)

  pub nets-are : (listed : List Data) → list_if (get (codes "nets") tree) NetsNotList ≡ Ok listed → nets_of tree ≡ walk with_net 0 [] listed
  unfolding nets_of
  nets-are listed is = rw is refl

  pub wires-fault : (fault : NetlistFault) → list_if (get (codes "edges") tree) EdgesNotList ≡ Err fault → IsReadingFault is_memory (wires_of tree) fault
  unfolding wires_of
  wires-fault fault is = rw is (holds_unless (is_memory fault) refl)

  pub wires-are : (listed : List Data) → list_if (get (codes "edges") tree) EdgesNotList ≡ Ok listed → wires_of tree ≡ walk with_wire 0 [] listed
  unfolding wires_of
  wires-are listed is = rw is refl

  pub edges-fault : (fault : NetlistFault) → list_if (get (codes "edges") tree) EdgesNotList ≡ Err fault → IsReadingFault is_memory (edges_of tree) fault
  unfolding edges_of
  edges-fault fault is = rw is (holds_unless (is_memory fault) refl)

  pub edges-are : (listed : List Data) → list_if (get (codes "edges") tree) EdgesNotList ≡ Ok listed → edges_of tree ≡ Ok (filter_map as_str listed)
  unfolding edges_of
  edges-are listed is = rw is refl

  -- ---- the whole

  pub version-fault : (fault : NetlistFault) → IsReadingFault is_memory (version_of tree) fault → IsReadingFault is_memory (netlist_of tree) fault
  unfolding netlist_of
  version-fault fault h = IsReadingFault-first is_memory (version_of tree) _ fault h

  module _ (version : ℕ) (shown : version_of tree ≡ Ok version) where
    pub cycles-fault : (fault : NetlistFault) → IsReadingFault is_memory (cycles_of tree) fault → IsReadingFault is_memory (netlist_of tree) fault
    unfolding netlist_of
    cycles-fault fault h = rw shown (IsReadingFault-first is_memory (cycles_of tree) _ fault h)

    module _ (cycles : ℕ) (counted : cycles_of tree ≡ Ok cycles) where
      pub all_parts-fault : (fault : NetlistFault) → IsReadingFault is_memory (parts_of version tree) fault → IsReadingFault is_memory (netlist_of tree) fault
      unfolding netlist_of
      all_parts-fault fault h = rw (shown, counted) (IsReadingFault-first is_memory (parts_of version tree) _ fault h)

      module _ (parts : List Part) (are : parts_of version tree ≡ Ok parts) where
        pub all_nets-fault : (fault : NetlistFault) → IsReadingFault is_memory (nets_of tree) fault → IsReadingFault is_memory (netlist_of tree) fault
        unfolding netlist_of
        all_nets-fault fault h = rw (shown, counted, are) (IsReadingFault-first is_memory (nets_of tree) _ fault h)

        module _ (nets : List PinNetView) (joined : nets_of tree ≡ Ok nets) where
          pub all_wires-fault : (fault : NetlistFault) → IsReadingFault is_memory (wires_of tree) fault → IsReadingFault is_memory (netlist_of tree) fault
          unfolding netlist_of
          all_wires-fault fault h = rw (shown, counted, are, joined) (IsReadingFault-first is_memory (wires_of tree) _ fault h)

          module _ (wires : List (Option Wire)) (wired : wires_of tree ≡ Ok wires) where
            pub all_edges-fault : (fault : NetlistFault) → IsReadingFault is_memory (edges_of tree) fault → IsReadingFault is_memory (netlist_of tree) fault
            unfolding netlist_of
            all_edges-fault fault h = rw (shown, counted, are, joined, wired) (IsReadingFault-first is_memory (edges_of tree) _ fault h)

            pub netlist-ok : (edges : List (List ℕ)) → edges_of tree ≡ Ok edges → (stray : List StrayKey) → stray ≡ stray_in_netlist tree
                → netlist_of tree ≡ Ok (record { version = version; cycles = cycles; parts = parts; nets = nets; wires = wires; edges = edges; stray = stray })
            unfolding netlist_of
            netlist-ok edges is stray same = rw (shown, counted, are, joined, wired, is, same) refl
