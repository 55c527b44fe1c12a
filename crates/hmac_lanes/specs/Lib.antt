pub mod LaneKeys
