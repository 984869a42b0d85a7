-- What the whole base is there for: the demands of any C boundary, and the library's own.
pub mod Lamp
pub mod Checks
pub mod SegmentChecks
pub mod MessageChecks
pub mod CountChecks
pub mod Boundary
pub mod ManyChecks
pub mod Refused
pub mod Exports
pub mod History
pub mod Demands
pub mod EachCall
pub mod Unused
pub mod Defined
pub mod Impostors
pub mod Examples
