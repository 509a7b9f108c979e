-- Which fault of a check comes of one of the header or of the scan. This project's own.
use Rattle.block_disk.specs.declared.fault.HeadFault.{HeadFault}
use Rattle.block_disk.specs.declared.fault.HeadFault.TheVariants as header
use Rattle.repair_scan.specs.declared.fault.ScanFault.{ScanFault}
use Rattle.repair_scan.specs.declared.fault.ScanFault.TheVariants as scan
use Rattle.repair_scan.specs.declared.fault.CheckFault.{CheckFault}
use Rattle.repair_scan.specs.declared.fault.CheckFault.TheVariants.{Disk, NotDets, Version, Memory}

abbrev pub header_fault : HeadFault → CheckFault
header_fault header.Disk = Disk
header_fault header.NotDets = NotDets
header_fault (header.Version number) = Version number

abbrev pub scan_fault : ScanFault → CheckFault
scan_fault scan.Disk = Disk
scan_fault scan.Memory = Memory
