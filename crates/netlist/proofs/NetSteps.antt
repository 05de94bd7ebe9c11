-- The net of an element, step by step.
use Rattle.std.proofs.Common.{◌≡◌, ℕ, List, Option, Some, None, Ok, Err, refl}
use Rattle.std.specs.Prelude.{ok_or, codes}
use Rattle.serde_json.specs.Data.{Data}
use Rattle.serde_json.specs.Find.{get}
use Rattle.json_tree.specs.Words.{text_at}
use Rattle.itv_base.specs.Range.{Ends}
use Rattle.netlist.specs.declared.fault.NetlistFault.{NetlistFault}
use Rattle.netlist.specs.declared.fault.NetlistFault.TheVariants.{Net}
use Rattle.netlist.specs.declared.pin.PinText.{PinText}
use Rattle.netlist.specs.Fault.{is_memory}
use Rattle.netlist.specs.Netlist.{pins_of, delay_of, range_of, net_of}
use Rattle.itv_base.specs.Reading.{IsReadingFault}
use Rattle.itv_base.proofs.Faults.{IsReadingFault-first}

module _ (n : ℕ) (d : Data) where
  pub net-pins : (fault : NetlistFault) → IsReadingFault is_memory (ok_or (pins_of d) (Net n)) fault → IsReadingFault is_memory (net_of n d) fault
  unfolding net_of
  net-pins fault h = IsReadingFault-first is_memory (ok_or (pins_of d) (Net n)) _ fault h

  module _ (pins : List PinText) (read : ok_or (pins_of d) (Net n) ≡ Ok pins) where
    pub net-ends : delay_of (get (codes "delay") d) ≡ None → net_of n d ≡ Err (Net n)
    unfolding net_of
    net-ends none = rw (read, none) refl

    module _ (ends : Ends) (found : delay_of (get (codes "delay") d) ≡ Some ends) where
      pub net-delay : (fault : NetlistFault) → IsReadingFault is_memory (range_of n ends) fault → IsReadingFault is_memory (net_of n d) fault
      unfolding net_of
      net-delay fault h = rw (read, found) (IsReadingFault-first is_memory (range_of n ends) _ fault h)

      pub net-ok : (delay : Ends) → range_of n ends ≡ Ok delay → (name : Option (List ℕ)) → name ≡ text_at (codes "name") d → net_of n d ≡ Ok (record { name = name; pins = pins; delay = delay })
      unfolding net_of
      net-ok delay is name called = rw (read, found, is, called) refl
