-- How a stored file is seen.
use Rattle.std.specs.Prelude.{ℕ, List, string_bytes}
use Rattle.outside_ports.specs.declared.memory_shelf.StoredFile.{StoredFile}

-- the name of a stored file, with its bytes
abbrev pub entry_of : StoredFile → List ℕ × List ℕ
entry_of file = (string_bytes file.name, file.bytes.items)
