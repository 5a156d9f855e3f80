use Rattle.std.proofs.Common.{refl, sym}
use Rattle.std.proofs.Common.{string_bytes}
use Rattle.outside_ports.proofs.StoredFiles.{replaces, adds}
use Rattle.outside_ports.proofs.memory_shelf.store.Goals as goal

pub returns-in-Some-clause-stored : goal.returns-in-Some-clause-stored
returns-in-Some-clause-stored c =
    replaces c.args.files.now.items (record { name = c.index_mut.result.now.name; bytes = c.args.bytes })
    c.index_mut.result.now (string_bytes c.args.name) c.in-Some.place
    (rw (← c.deref.ensures.value) (sym c.in-Some.ensures)) c.index_mut.ensures.value refl

pub returns-in_ok-push-in-None-clause-stored : goal.returns-in_ok-push-in-None-clause-stored
returns-in_ok-push-in-None-clause-stored c =
    rw c.in_ok-push-in-None.ensures.items
    (adds c.args.files.now.items (record { name = c.args.name; bytes = c.args.bytes }) (string_bytes c.args.name)
    (rw (← c.deref.ensures.value) (sym c.in-None.ensures)) refl)
