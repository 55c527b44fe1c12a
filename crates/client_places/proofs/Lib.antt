pub mod EventsJoined
