use Rattle.std.proofs.Common.{ltb, refl}
use Rattle.signs.specs.declared.reason.Reason.TheVariants.{SignByte}
use Rattle.signs.specs.Faults.{family_fault}
use Rattle.signs.proofs.Entries.{first_refused, none_refused}
use Rattle.listed.specs.Listed.{byte_check}
use Rattle.listed.proofs.table.check_bytes.Goals as goal

pub returns-in-Some : goal.returns-in-Some
returns-in-Some c = first_refused (ltb 1) c.args.bytes.now 0 (byte_check c.args.bytes.now) (family_fault SignByte) _ c.first_foreign.ensures (λ k l. refl) _ _ c.in-Some.is c.fault.ensures

pub returns-in-None : goal.returns-in-None
returns-in-None c = none_refused (ltb 1) c.args.bytes.now 0 (byte_check c.args.bytes.now) (family_fault SignByte) _ c.first_foreign.ensures (λ k l. refl) c.in-None.is
